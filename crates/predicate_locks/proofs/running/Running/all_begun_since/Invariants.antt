use Rattle.std.proofs.Common.{ℕ, ◌<◌, ◌≤◌, slice_index_or}
use Rattle.predicate_locks.specs.declared.running.RunningSearch.{RunningSearch}
use Rattle.predicate_locks.proofs.running.Running.all_begun_since.Given as goal

abbrev pub invariant-loop-search : goal.invariant-loop-search
invariant-loop-search g l =
    (k : ℕ) (d : RunningSearch g.row.Q.Denot) → k < l.search-index → l.stamp ≤ (slice_index_or l.search-items k d).begun
