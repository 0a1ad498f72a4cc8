use Rattle.std.specs.Fn.{FnReturnsAt}
use Rattle.predicate_locks.proofs.MeetingLemmas.{AreMet}
use Rattle.predicate_locks.proofs.running.Running.meeting.Given as goal

abbrev pub invariant-loop-search : goal.invariant-loop-search
invariant-loop-search g l =
    AreMet (FnReturnsAt g.F.Fn l.accepts) l.search-items l.search-index l.attached.numbers l.met.items
