-- What the invariant gives.
use Rattle.std.specs.Prelude.{◌≡◌, ℕ, [], Contains, Some}
use Rattle.node_arena.specs.declared.handle.Handle.{Handle}
use Rattle.tree_theory.specs.Changes.{IsPlaced}
use Rattle.tree_theory.specs.Contents.{InContents}
use Rattle.tree_theory.specs.KeyClasses.{Class}
use Rattle.tree_theory.specs.Nodes.{Search, Tree}

module _ {Key Query Item : Type 0} {C : Class Key Query Item} where
  -- the search runs under this number and has nothing left to visit
  pub record IsReady (t : Tree C) (s : ℕ) (search : Search C) : Type 0 where
    pub running : t.searches s ≡ Some search
    pub stack : search.stack ≡ []

  -- each search that is ready has found every pair of the tree that it looks for
  abbrev pub MissesNothing : Tree C → Type 0
  MissesNothing t = (s : ℕ) (search : Search C) → IsReady t s search → (pair : ℕ × Item)
      → InContents t pair → C.Matches pair.1 search.query → Contains search.found pair

  -- no step places a pair that a ready search looks for
  abbrev pub PlacesBehindNone : Tree C → Type 0
  PlacesBehindNone t = (u : Tree C) (h : Handle) (pair : ℕ × Item) → IsPlaced t u h pair
      → (s : ℕ) (search : Search C) → IsReady t s search → C.Matches pair.1 search.query → ⊥
