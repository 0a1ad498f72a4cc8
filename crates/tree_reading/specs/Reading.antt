-- A whole search of a tree that stays as it is: a walk that sees each node that may have a match.
use Rattle.std.specs.Prelude.{◌≡◌, ◌⊎◌, ℕ, List, Contains, Option, None, Some, IsTrue}
use Rattle.node_arena.specs.declared.handle.Handle.{Handle}
use Rattle.tree_theory.specs.Contents.{IsContents}
use Rattle.tree_theory.specs.Invariant.{Shape}
use Rattle.tree_theory.specs.KeyClasses.{Class}
use Rattle.tree_theory.specs.Nodes.{Node, Tree, entries_of, pairs_of, is_marked}

module _ {Key Query Item : Type 0} (C : Class Key Query Item) (query : Query) where
  -- the numbers of all pairs of the tree whose item matches the query are among these
  abbrev pub HasAll : Tree C → List ℕ → Type 0
  HasAll t ids = (xs : List (ℕ × Item)) → IsContents t xs → (pair : ℕ × Item) → Contains xs pair
      → C.Matches pair.1 query → Contains ids pair.0

  -- the same, of whatever tree has these nodes and this root
  abbrev pub HasAllBelow : (Handle → Option (Node C)) → Handle → List ℕ → Type 0
  HasAllBelow look root ids = (t : Tree C) → t.look ≡ look → t.root ≡ root → Shape t
      → HasAll t ids

  -- one of these nodes has a pair of this number whose item matches
  pub record IsThere (look : Handle → Option (Node C)) (id : ℕ) : Type 0 where
    pub pair : ℕ × Item
    pub number : pair.0 ≡ id
    pub handle : Handle
    pub node : Node C
    pub is : look handle ≡ Some node
    pub pair_in : Contains (pairs_of node.body) pair
    pub matches : C.Matches pair.1 query

  -- each of these is the number of a pair of these nodes whose item matches
  abbrev pub HasOnly : (Handle → Option (Node C)) → List ℕ → Type 0
  HasOnly look ids = (id : ℕ) → Contains ids id → IsThere look id

  -- the children of these entries that are consistent have been added
  pub record LeadsOn (entries : List (Key × Handle)) (old new : List Handle) : Type 0 where
    pub keeps : (h : Handle) → Contains old h → Contains new h
    pub adds : (entry : Key × Handle) → Contains entries entry → C.Consistent entry.0 query
        → Contains new entry.1

  -- one of these pairs has this number, and its item matches
  pub record OneOf (pairs : List (ℕ × Item)) (id : ℕ) : Type 0 where
    pub pair : ℕ × Item
    pub is : pair.0 ≡ id
    pub among : Contains pairs pair
    pub matches : C.Matches pair.1 query

  -- the numbers of just those of these pairs that match have been added
  pub record FindsIn (pairs : List (ℕ × Item)) (old new : List ℕ) : Type 0 where
    pub keeps : (id : ℕ) → Contains old id → Contains new id
    pub adds : (pair : ℕ × Item) → Contains pairs pair → C.Matches pair.1 query
        → Contains new pair.0
    pub only : (id : ℕ) → Contains new id → Contains old id ⊎ OneOf pairs id

  -- the node has been seen
  pub record HasRead (node : Node C) (left left_after : List Handle) (ids ids_after : List ℕ) :
      Type 0 where
    pub keeps : (h : Handle) → Contains left h → Contains left_after h
    pub right : IsTrue (is_marked node.place) → (r : Handle) → node.right ≡ Some r
        → Contains left_after r
    pub children : (entry : Key × Handle) → Contains (entries_of node.body) entry
        → C.Consistent entry.0 query → Contains left_after entry.1
    pub finds : FindsIn (pairs_of node.body) ids ids_after

  -- the node has been seen, if there is one
  abbrev pub HasReadAt : Option (Node C) → List Handle → List Handle → List ℕ → List ℕ → Type 0
  HasReadAt None left left_after ids ids_after = (left_after ≡ left) × (ids_after ≡ ids)
  HasReadAt (Some node) left left_after ids ids_after = HasRead node left left_after ids ids_after

  -- these nodes have been seen, and these are left; these numbers have been found
  pub record IsReading (look : Handle → Option (Node C)) (root : Handle) (seen left : List Handle)
      (ids : List ℕ) : Type 0 where
    pub begun : Contains seen root ⊎ Contains left root
    pub child : (p : Handle) (node : Node C) → look p ≡ Some node → Contains seen p
        → (entry : Key × Handle) → Contains (entries_of node.body) entry
        → C.Consistent entry.0 query → Contains seen entry.1 ⊎ Contains left entry.1
    pub mark : (l : Handle) (node : Node C) → look l ≡ Some node → Contains seen l
        → IsTrue (is_marked node.place) → (r : Handle) → node.right ≡ Some r
        → Contains seen r ⊎ Contains left r
    pub found : (h : Handle) (node : Node C) → look h ≡ Some node → Contains seen h
        → (pair : ℕ × Item) → Contains (pairs_of node.body) pair → C.Matches pair.1 query
        → Contains ids pair.0
    pub only : (id : ℕ) → Contains ids id → IsThere look id

  -- some nodes have been seen, and these are left; these numbers have been found
  pub record Reads (look : Handle → Option (Node C)) (root : Handle) (left : List Handle)
      (ids : List ℕ) : Type 0 where
    pub seen : List Handle
    pub reading : IsReading look root seen left ids
