use Rattle.std.proofs.Common.{◌≡◌, arith, refl}
use Rattle.std.specs.Fn.{FnReturnsAt}
use Rattle.std.proofs.lemmas.List.Elements.{at_read}
use Rattle.predicate_locks.proofs.MeetingLemmas.{first_meets, none_more, none_meets}
use Rattle.predicate_locks.proofs.running.Running.first_meeting.Goals as goal

pub returns-then-meets-clause-first : goal.returns-then-meets-clause-first
returns-then-meets-clause-first g c =
    let same = c.deref-search-items.ensures.value in
    let within = c.loop-search-test.true in
    let read = at_read c.deref-search-items.result.now (λ y. y ≡ c.search-item.result) c.loop-search.search-index c.search-item.result (omega arith) c.search-item.is refl in
    let met = c.if-meets.ensures.met refl in
    rw (← c.self.view_is) (first_meets _ _ _ c.loop-search.search-index c.search-item.result c.self.invariant.rising (rw same at within) (rw same at read) (rw same at c.loop-search.invariant) met.0 met.1)

pub loop-search-preserved : goal.loop-search-preserved
loop-search-preserved g c =
    let read = at_read c.deref-search-items.result.now (λ y. y ≡ c.search-item.result) c.loop-search.search-index c.search-item.result (omega arith) c.search-item.is refl in
    none_more (FnReturnsAt g.F.Fn c.args.accepts.now) c.deref-search-items.result.now c.loop-search.search-index c.args.attached.now.numbers c.search-item.result read c.loop-search.invariant (c.if-meets.ensures.not_met refl)

pub returns-clause-none : goal.returns-clause-none
returns-clause-none g c =
    let same = c.deref-search-items.ensures.value in
    rw (← c.self.view_is) (none_meets (FnReturnsAt g.F.Fn c.args.accepts.now) (record { running = c.self.inside.searches.items; next = c.self.inside.next }) c.args.attached.now.numbers (λ k d within. (rw same at c.loop-search.invariant) k d (omega arith)))
