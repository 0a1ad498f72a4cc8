use Rattle.std.proofs.Common.{ℕ, ◌<◌, false, Contains, slice_index_or}
use Rattle.std.specs.Fn.{FnReturnsAt}
use Rattle.predicate_locks.specs.declared.running.RunningSearch.{RunningSearch}
use Rattle.predicate_locks.proofs.running.Running.first_meeting.Given as goal

-- no search before this one is attached and accepted
abbrev pub invariant-loop-search : goal.invariant-loop-search
invariant-loop-search g l =
    (k : ℕ) (d : RunningSearch g.row.Q.Denot) → k < l.search-index → Contains l.attached.numbers (slice_index_or l.search-items k d).number → FnReturnsAt g.F.Fn l.accepts (slice_index_or l.search-items k d).query false
