use Rattle.std.proofs.Common.{◌≢◌, ℕ, ◌<◌, slice_index_or}
use Rattle.tree_nodes.specs.Progresses.{PlainProgress}
use Rattle.search_tree.proofs.opening.place_of.Given as goal

abbrev pub invariant-loop-at : goal.invariant-loop-at
invariant-loop-at g l =
    (k : ℕ) (d : PlainProgress g.row.I.Denot) → k < l.at → (slice_index_or l.progress k d).number ≢ l.number
