use Rattle.std.proofs.Common.{◌≡◌, ◌<◌, ℕ, slice_get, Some}
use Rattle.node_arena.specs.declared.handle.Handle.{Handle}
use Rattle.tree_nodes.proofs.places.place_among.Given as goal

abbrev pub invariant-loop-place : goal.invariant-loop-place
invariant-loop-place l =
    (i : ℕ) (other : Handle) → i < l.place → slice_get l.children i ≡ Some other → other ≡ l.child → ⊥
