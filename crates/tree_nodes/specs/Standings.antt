-- Where a walk is, as seen from its node.
use Rattle.std.specs.Prelude.{◌≡◌, ◌≢◌, ◌⊎◌, ℕ, AllPairs, Bool, true, Contains, Some}
use Rattle.node_arena.specs.Slots.{Slots, value_at}
use Rattle.node_arena.specs.declared.handle.Handle.{Handle}
use Rattle.tree_theory.specs.KeyClasses.{Class}
use Rattle.tree_theory.specs.Nodes.{PlainNode, Node, entries_of}
use Rattle.tree_theory.specs.declared.position.Position.TheVariants.{Root, Linked, Unlinked, Retired}

module _ {Key Item : Type 0} (nodes : Slots (PlainNode Key Item)) where
  -- the handle names no node, or a retired one
  abbrev pub IsNowhere : Handle → Type 0
  IsNowhere at = (node : PlainNode Key Item) → value_at nodes at ≡ Some node → (stamp : ℕ)
      × (node.place ≡ Retired stamp)

  -- a marked node under this parent
  pub record IsMarkedUnder (at parent : Handle) : Type 0 where
    pub node : PlainNode Key Item
    pub is : value_at nodes at ≡ Some node
    pub linked : node.place ≡ Linked parent true

  -- no two entries of a node name one child
  abbrev pub ChildrenDiffer : Type 0
  ChildrenDiffer = (at : Handle) (node : PlainNode Key Item) → value_at nodes at ≡ Some node
      → AllPairs (λ one other. one.1 ≢ other.1) (entries_of node.body)

-- a right node of `left` without an entry
pub record IsUnlinked {Key Item : Type 0} (nodes : Slots (PlainNode Key Item))
    (at left : Handle) : Type 0 where
  pub node : PlainNode Key Item
  pub is : value_at nodes at ≡ Some node
  pub place : node.place ≡ Unlinked left

module _ {Key Query Item : Type 0} (C : Class Key Query Item) where
  -- an entry of the parent names the child, and its key covers this one
  pub record IsCoveredBy (nodes : Slots (Node C)) (parent child : Handle) (key : Key) : Type 0 where
    pub node : Node C
    pub is : value_at nodes parent ≡ Some node
    pub entry_key : Key
    pub entry : Contains (entries_of node.body) (entry_key, child)
    pub covers : C.Covers entry_key key

  -- the root, or a node whose entry covers the key
  pub record IsHere (nodes : Slots (Node C)) (at : Handle) (key : Key) : Type 0 where
    pub node : Node C
    pub is : value_at nodes at ≡ Some node
    pub stands : (node.place ≡ Root)
        ⊎ ((parent : Handle) × (marked : Bool) × (node.place ≡ Linked parent marked)
        × IsCoveredBy nodes parent at key)

  -- a linked node under this parent whose entry does not cover the key
  pub record IsAside (nodes : Slots (Node C)) (at parent : Handle) (key : Key) : Type 0 where
    pub node : Node C
    pub is : value_at nodes at ≡ Some node
    pub marked : Bool
    pub place : node.place ≡ Linked parent marked
    pub uncovered : IsCoveredBy nodes parent at key → ⊥
