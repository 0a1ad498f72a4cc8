use Rattle.std.proofs.Common.{◌≡◌, length, arith, refl}
use Rattle.std.specs.Fn.{FnReturnsAt}
use Rattle.std.proofs.lemmas.List.Elements.{at_read}
use Rattle.predicate_locks.proofs.MeetingLemmas.{met_more, met_same, are_meeting}
use Rattle.predicate_locks.proofs.running.Running.meeting.Goals.{then-meets, else-meets}
use Rattle.predicate_locks.proofs.running.Running.meeting.Goals as goal

pub loop-search-preserved : goal.loop-search-preserved
loop-search-preserved g c =
    let same = c.deref-search-items.ensures.value in
    let read = at_read c.deref-search-items.result.now (λ y. y ≡ c.search-item.result) c.loop-search.search-index c.search-item.result (omega arith) c.search-item.is refl in
    elim c.if-meets.branch [
      | then-meets w ↦
          let met = w.if-meets.ensures.met refl in
          rw (w.met-is, w.push.ensures.items) (met_more (FnReturnsAt g.F.Fn c.args.accepts.now) c.deref-search-items.result.now c.self.inside.next c.loop-search.search-index c.args.attached.now.numbers c.loop-search.met.items c.search-item.result (rw same c.self.invariant.rising) c.loop-search-test.true read c.loop-search.invariant met.0 met.1)
      | else-meets w ↦ rw w.met-is (met_same (FnReturnsAt g.F.Fn c.args.accepts.now) c.deref-search-items.result.now c.loop-search.search-index c.args.attached.now.numbers c.loop-search.met.items c.search-item.result read c.loop-search.invariant (w.if-meets.ensures.not_met refl))
    ]

pub returns-clause-meeting : goal.returns-clause-meeting
returns-clause-meeting g c =
    let same = c.deref-search-items.ensures.value in
    let all : c.loop-search.search-index ≡ length c.deref-search-items.result.now = omega arith in
    rw (← c.self.view_is) (are_meeting (FnReturnsAt g.F.Fn c.args.accepts.now) (record { running = c.self.inside.searches.items; next = c.self.inside.next }) c.args.attached.now.numbers c.loop-search.met.items c.self.invariant.rising (rw (all, same) at c.loop-search.invariant))

pub returns-clause-rising : goal.returns-clause-rising
returns-clause-rising g c = c.loop-search.invariant.rising
