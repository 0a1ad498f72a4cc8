-- What tending needs to know of a node.
use Rattle.std.specs.Prelude.{◌≡◌, ℕ, Option, None, Some, ⊤}
use Rattle.node_arena.specs.declared.handle.Handle.{Handle}
use Rattle.search_tree.specs.Tends.{MayClean, MayFree, MayInstall, MayRetire}
use Rattle.search_tree.specs.Trees.{PlainTree}
use Rattle.search_tree.specs.declared.needs.Due.{Due}
use Rattle.search_tree.specs.declared.needs.Due.TheVariants.{Nothing, Free, Install, Clean, Retire}
use Rattle.tree_theory.specs.KeyClasses.{Class}
use Rattle.tree_theory.specs.Nodes.{PlainNode}
use Rattle.tree_theory.specs.declared.position.Position.{Position}
use Rattle.tree_theory.specs.declared.position.Position.TheVariants.{Root, Linked, Unlinked, Retired}

-- the stamp in a retired place; `None` in any other
abbrev pub stamp_in : Position → Option ℕ
stamp_in Root = None
stamp_in (Linked parent marked) = None
stamp_in (Unlinked left) = None
stamp_in (Retired stamp) = Some stamp

abbrev pub stamp_at : {Key Item : Type 0} → Option (PlainNode Key Item) → Option ℕ
stamp_at None = None
stamp_at (Some node) = stamp_in node.place

-- what is due at a node may be done
abbrev pub MayDo : {Key Query Item : Type 0} (C : Class Key Query Item)
    (t : PlainTree Key Query Item) → Handle → Due Key → Type 0
MayDo C t at Nothing = ⊤
MayDo C t at Free = MayFree C t at
MayDo C t at (Install entry) = MayInstall C t entry × (entry.left ≡ at)
MayDo C t at Clean = MayClean C t at
MayDo C t at (Retire parent place) = MayRetire C t at parent place
