use Rattle.predicate_locks.proofs.SearchLemmas.{below_next}
use Rattle.predicate_locks.proofs.running.Running.searches.Goals as goal

pub returns-clause-below : goal.returns-clause-below
returns-clause-below g c = rw (← c.self.view_is) (below_next 0 _ _ c.self.invariant.rising)
