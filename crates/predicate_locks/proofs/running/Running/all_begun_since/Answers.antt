use Rattle.std.proofs.Common.{◌≡◌, arith, refl}
use Rattle.std.proofs.lemmas.List.Elements.{at_read}
use Rattle.predicate_locks.proofs.MeetingLemmas.{all_begun, runs_at}
use Rattle.predicate_locks.proofs.running.Running.all_begun_since.Goals as goal

pub returns-then-search-stamp : goal.returns-then-search-stamp
returns-then-search-stamp g c =
    let same = c.deref-search-items.ensures.value in
    let within = c.loop-search-test.true in
    let read = at_read c.deref-search-items.result.now (λ y. y ≡ c.search-item.result) c.loop-search.search-index c.search-item.result (omega arith) c.search-item.is refl in
    rw (← c.self.view_is) (
      λ no. absurd (cc (no)),
      λ all. let since = all c.search-item.result.number c.search-item.result (runs_at _ c.self.invariant.rising c.loop-search.search-index c.search-item.result (rw same at within) (rw same at read)) in absurd (omega (arith, since)),
    )

pub returns : goal.returns
returns g c =
    let same = c.deref-search-items.ensures.value in
    rw (← c.self.view_is) (
      λ yes. all_begun (record { running = c.self.inside.searches.items; next = c.self.inside.next }) c.args.stamp (λ k d within. (rw same at c.loop-search.invariant) k d (omega arith)),
      λ all. refl,
    )
