-- The pairs of a tree.
use Rattle.std.specs.Prelude.{◌≡◌, ◌≢◌, ◌↔◌, ℕ, ◌≤◌, List, [], ◌++◌, length, Contains, AllPairs, flat_map, IsPermutation, IsSome, Option, Some, None}
use Rattle.node_arena.specs.declared.handle.Handle.{Handle}
use Rattle.tree_theory.specs.KeyClasses.{Class}
use Rattle.tree_theory.specs.Nodes.{PlainNode, Node, Tree, pairs_of}
use Rattle.tree_theory.specs.declared.TheConstants.{NODE_SIZE}

-- the pairs of a node, if there is one
abbrev pub pairs_at : {Key Item : Type 0} → Option (PlainNode Key Item) → List (ℕ × Item)
pairs_at None = []
pairs_at (Some node) = pairs_of node.body

module _ {Key Query Item : Type 0} {C : Class Key Query Item} where
  -- some node has the pair
  pub record InContents (t : Tree C) (pair : ℕ × Item) : Type 0 where
    pub handle : Handle
    pub node : Node C
    pub is : t.look handle ≡ Some node
    pub pair_in : Contains (pairs_of node.body) pair

  -- the handles of all nodes, each once
  pub record IsListing (t : Tree C) (handles : List Handle) : Type 0 where
    pub distinct : AllPairs (λ one other. one ≢ other) handles
    pub listed : (h : Handle) → Contains handles h ↔ IsSome (t.look h)

  -- the pairs of these nodes, in their order
  abbrev pub contents_of : Tree C → List Handle → List (ℕ × Item)
  contents_of t handles = flat_map (λ h. pairs_at (t.look h)) handles

  -- the list has each pair of the tree as often as its nodes have it
  pub record IsContents (t : Tree C) (contents : List (ℕ × Item)) : Type 0 where
    pub handles : List Handle
    pub listing : IsListing t handles
    pub same : IsPermutation (contents_of t handles) contents

-- up to order, `after` is `before` without some pairs: at most as many as a node has, all outside
-- of Kept
pub record LosesPairs {Item : Type 0} (Kept : ℕ × Item
    → Type 0) (before after : List (ℕ × Item)) : Type 0 where
  pub lost : List (ℕ × Item)
  pub same : IsPermutation before (after ++ lost)
  pub few : length lost ≤ NODE_SIZE
  pub none_kept : (pair : ℕ × Item) → Contains lost pair → Kept pair → ⊥
