use Rattle.std.proofs.Common.{◌≢◌, ℕ, ◌<◌, slice_index_or}
use Rattle.predicate_locks.specs.declared.running.RunningSearch.{RunningSearch}
use Rattle.predicate_locks.proofs.running.Running.position.Given as goal

abbrev pub invariant-loop-at : goal.invariant-loop-at
invariant-loop-at g l =
    (k : ℕ) (d : RunningSearch g.row.Q.Denot) → k < l.at → (slice_index_or l.search-items k d).number ≢ l.number
