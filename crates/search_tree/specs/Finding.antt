-- Finding leaves by a pair that they have, in a tree that stays as it is.
use Rattle.std.specs.Prelude.{◌≡◌, ◌⊎◌, ℕ, List, Contains, Option, None, Some, IsTrue}
use Rattle.node_arena.specs.Slots.{value_at}
use Rattle.node_arena.specs.declared.handle.Handle.{Handle}
use Rattle.search_tree.specs.Trees.{PlainTree}
use Rattle.tree_theory.specs.KeyClasses.{Class}
use Rattle.tree_theory.specs.Nodes.{Node, PlainNode, entries_of, pairs_of, is_marked}
use Rattle.tree_theory.specs.declared.position.Position.{Position}
use Rattle.tree_theory.specs.declared.position.Position.TheVariants.{Root, Linked, Unlinked, Retired}

-- the slot of the left node in the place of a node without an entry; `None` in any other place
abbrev pub left_slot_in : Position → Option ℕ
left_slot_in Root = None
left_slot_in (Linked parent marked) = None
left_slot_in (Unlinked left) = Some left.slot
left_slot_in (Retired stamp) = None

abbrev pub left_slot_at : {Key Item : Type 0} → Option (PlainNode Key Item) → Option ℕ
left_slot_at None = None
left_slot_at (Some node) = left_slot_in node.place

-- one of these pairs has this number
pub record HasNumber {Item : Type 0} (number : ℕ) (pairs : List (ℕ × Item)) : Type 0 where
  pub item : Item
  pub among : Contains pairs (number, item)

-- the slot is added if one of its pairs has this number
pub record NamesSlot {Item : Type 0} (number slot : ℕ) (pairs : List (ℕ × Item))
    (old new : List ℕ) : Type 0 where
  pub keeps : (named : ℕ) → Contains old named → Contains new named
  pub adds : (item : Item) → Contains pairs (number, item) → Contains new slot
  pub only : (named : ℕ) → Contains new named
      → Contains old named ⊎ ((slot ≡ named) × HasNumber number pairs)

-- the children of these entries whose key covers this one are added
pub record AddsCovering {Key Query Item : Type 0} (C : Class Key Query Item) (key : Key)
    (entries : List (Key × Handle)) (old new : List Handle) : Type 0 where
  pub keeps : (h : Handle) → Contains old h → Contains new h
  pub adds : (entry : Key × Handle) → Contains entries entry → C.Covers entry.0 key
      → Contains new entry.1

-- one of these nodes is in this slot, and has a pair of this number
pub record IsNamed {Key Query Item : Type 0} (C : Class Key Query Item) (number : ℕ)
    (look : Handle → Option (Node C)) (slot : ℕ) : Type 0 where
  pub handle : Handle
  pub in_slot : handle.slot ≡ slot
  pub node : Node C
  pub is : look handle ≡ Some node
  pub has : HasNumber number (pairs_of node.body)

-- each of these is the slot of a node that has a pair of this number
abbrev pub HasOnlySlots : {Key Query Item : Type 0} (C : Class Key Query Item) → ℕ
    → PlainTree Key Query Item → List ℕ → Type 0
HasOnlySlots C number t slots = (slot : ℕ) → Contains slots slot
    → IsNamed C number (value_at t.nodes) slot

module _ {Key Query Item : Type 0} (C : Class Key Query Item) (number : ℕ) (item : Item) where
  -- the slot of each node that has the pair is among these
  abbrev pub HasAllSlots : PlainTree Key Query Item → List ℕ → Type 0
  HasAllSlots t slots = (h : Handle) (node : Node C) → value_at t.nodes h ≡ Some node
      → Contains (pairs_of node.body) (number, item) → Contains slots h.slot

  -- the node in this slot has been seen
  pub record HasSeen (slot : ℕ) (node : Node C) (left left_after : List Handle)
      (slots slots_after : List ℕ) : Type 0 where
    pub keeps : (h : Handle) → Contains left h → Contains left_after h
    pub right : IsTrue (is_marked node.place) → (r : Handle) → node.right ≡ Some r
        → Contains left_after r
    pub children : (entry : Key × Handle) → Contains (entries_of node.body) entry
        → C.Covers entry.0 (C.key_of item) → Contains left_after entry.1
    pub names : NamesSlot number slot (pairs_of node.body) slots slots_after

  -- the node in this slot has been seen, if there is one
  abbrev pub HasSeenAt : ℕ → Option (Node C) → List Handle → List Handle → List ℕ → List ℕ
      → Type 0
  HasSeenAt slot None left left_after slots slots_after =
      (left_after ≡ left) × (slots_after ≡ slots)
  HasSeenAt slot (Some node) left left_after slots slots_after =
      HasSeen slot node left left_after slots slots_after

  -- these nodes have been seen, and these are left; these slots have been named
  pub record IsSeeing (look : Handle → Option (Node C)) (root : Handle) (seen left : List Handle)
      (slots : List ℕ) : Type 0 where
    pub begun : Contains seen root ⊎ Contains left root
    pub child : (p : Handle) (node : Node C) → look p ≡ Some node → Contains seen p
        → (entry : Key × Handle) → Contains (entries_of node.body) entry
        → C.Covers entry.0 (C.key_of item) → Contains seen entry.1 ⊎ Contains left entry.1
    pub mark : (l : Handle) (node : Node C) → look l ≡ Some node → Contains seen l
        → IsTrue (is_marked node.place) → (r : Handle) → node.right ≡ Some r
        → Contains seen r ⊎ Contains left r
    pub found : (h : Handle) (node : Node C) → look h ≡ Some node → Contains seen h
        → Contains (pairs_of node.body) (number, item) → Contains slots h.slot
    pub only : (slot : ℕ) → Contains slots slot → IsNamed C number look slot

  -- some nodes have been seen, and these are left; these slots have been named
  pub record Sees (look : Handle → Option (Node C)) (root : Handle) (left : List Handle)
      (slots : List ℕ) : Type 0 where
    pub seen : List Handle
    pub seeing : IsSeeing look root seen left slots
