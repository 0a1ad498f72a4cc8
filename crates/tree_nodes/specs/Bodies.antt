-- The contents of a node, as plain data.
use Rattle.std.specs.Prelude.{◌≡◌, ℕ, List}
use Rattle.node_arena.specs.declared.handle.Handle.{Handle}
use Rattle.tree_nodes.specs.declared.node.Body.{Body}
use Rattle.tree_nodes.specs.declared.node.Body.TheVariants.{Pairs, Entries}
use Rattle.tree_theory.specs.Nodes.{PlainBody}
use Rattle.tree_theory.specs.Nodes.PlainBody.{Leaf, Inner}

abbrev pub plain_body : {Key Item A : Type 0} → Body Key Item A → PlainBody Key Item
plain_body (Pairs pairs) = Leaf pairs
plain_body (Entries entries) = Inner entries

module _ {Key Item : Type 0} where
  abbrev pub IsLeaf : PlainBody Key Item → Type 0
  IsLeaf body = (pairs : List (ℕ × Item)) × (body ≡ Leaf pairs)

  abbrev pub IsInner : PlainBody Key Item → Type 0
  IsInner body = (entries : List (Key × Handle)) × (body ≡ Inner entries)
