-- What a method changes at a page.
use Rattle.std.specs.Prelude.{ℕ, List, Option, None, Some, option_map, Result}
use Rattle.map_asks.specs.Pages.{page_of}
use Rattle.map_asks.specs.declared.asks.Layer.{Layer}
use Rattle.map_asks.specs.declared.asks.Layer.TheVariants.{All, Class}
use Rattle.map_asks.specs.declared.asks.Page.{Page}
use Rattle.map_asks.specs.declared.asks.Page.TheVariants.{Fixed, Items, Item}
use Rattle.map_changes.specs.Faults.{◌>>=◌, or_fault}
use Rattle.map_changes.specs.declared.edits.Method.{Method}
use Rattle.map_changes.specs.declared.edits.Method.TheVariants.{Post, Put, Patch, Delete}
use Rattle.map_changes.specs.declared.faults.ChangeFault.{ChangeFault}
use Rattle.map_changes.specs.declared.faults.ChangeFault.TheVariants as faults
use Rattle.map_changes.specs.declared.targets.Target.{Target}
use Rattle.map_changes.specs.declared.targets.Target.TheVariants.{Added, Reshaped, Deleted}

-- a feature is added at the items of a collection
abbrev pub added_at : Page → Option Layer
added_at (Fixed fixed) = None
added_at (Items layer) = Some layer
added_at (Item layer id) = None

-- a feature is changed in the collection of all features alone
abbrev pub changed_at : Page → Option ℕ
changed_at (Fixed fixed) = None
changed_at (Items layer) = None
changed_at (Item All id) = Some id
changed_at (Item (Class class) id) = None

-- what a method changes at a page
abbrev pub target_at : Method → Page → Option Target
target_at Post page = option_map Added (added_at page)
target_at Put page = option_map Reshaped (changed_at page)
target_at Patch page = option_map Reshaped (changed_at page)
target_at Delete page = option_map Deleted (changed_at page)

-- what a method changes at a path
unfoldable pub target_of : List (List ℕ) → Method → List ℕ → Result Target ChangeFault
target_of classes method path =
    or_fault faults.NoPage (page_of classes path)
    >>= λ page. or_fault faults.Method (target_at method page)
