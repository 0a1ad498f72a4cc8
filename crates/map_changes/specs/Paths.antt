-- What may be changed at a page.
use Rattle.std.specs.Prelude.{ℕ, List, Option, None, Some}
use Rattle.map_asks.specs.Pages.{page_of}
use Rattle.map_asks.specs.declared.asks.Layer.TheVariants.{All, Class}
use Rattle.map_asks.specs.declared.asks.Page.{Page}
use Rattle.map_asks.specs.declared.asks.Page.TheVariants as pages
use Rattle.map_changes.specs.declared.paths.Methods.{Methods}
use Rattle.map_changes.specs.declared.paths.Methods.TheVariants.{Read, Add, Edit}

-- to a collection features are added, and in the collection of all they are changed
abbrev pub methods_of_page : Option Page → Methods
methods_of_page None = Read
methods_of_page (Some (pages.Fixed page)) = Read
methods_of_page (Some (pages.Items layer)) = Add
methods_of_page (Some (pages.Item All id)) = Edit
methods_of_page (Some (pages.Item (Class class) id)) = Read

-- the methods that the page of a path has
abbrev pub methods_of : List (List ℕ) → List ℕ → Methods
methods_of classes path = methods_of_page (page_of classes path)
