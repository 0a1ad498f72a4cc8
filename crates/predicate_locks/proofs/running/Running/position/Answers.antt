use Rattle.std.proofs.Common.{◌≡◌, refl, arith}
use Rattle.std.proofs.lemmas.List.Elements.{at_read}
use Rattle.predicate_locks.proofs.SearchLemmas.{none_placed}
use Rattle.predicate_locks.proofs.MeetingLemmas.{runs_at}
use Rattle.predicate_locks.proofs.running.Running.position.Goals as goal

pub returns-then-search-number-clause-runs : goal.returns-then-search-number-clause-runs
returns-then-search-number-clause-runs g c =
    let same = c.deref-search-items.ensures.value in
    let within = c.loop-at-test.true in
    let read = at_read c.deref-search-items.result.now (λ y. y ≡ c.search-item.result) c.loop-at.at c.search-item.result (omega arith) c.search-item.is refl in
    let runs = runs_at (record { running = c.self.inside.searches.items; next = c.self.inside.next }) c.self.invariant.rising c.loop-at.at c.search-item.result (rw same at within) (rw same at read) in
    rw (← c.self.view_is) (rw (rw c.if-search-number.true at runs) refl)

pub returns-clause-runs : goal.returns-clause-runs
returns-clause-runs g c =
    let same = c.deref-search-items.ensures.value in
    rw (← c.self.view_is) (rw (none_placed c.args.number c.self.inside.searches.items (λ k d within. (rw same at c.loop-at.invariant) k d (omega arith))) refl)
