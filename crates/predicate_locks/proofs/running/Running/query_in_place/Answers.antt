use Rattle.std.proofs.Common.{refl}
use Rattle.predicate_locks.proofs.SearchLemmas.{found_at}
use Rattle.predicate_locks.proofs.running.Running.query_in_place.Goals as goal

pub returns : goal.returns
returns g c =
    let found = rw (← c.self.view_is) at c.in_ok-at.ensures.found in
    rw (← c.self.view_is) (rw (found_at 0 c.self.inside.searches.items c.self.inside.next c.self.invariant.rising c.in_ok-at.at c.args.number c.index.result.now found.0 found.1 c.index.ensures) refl)
