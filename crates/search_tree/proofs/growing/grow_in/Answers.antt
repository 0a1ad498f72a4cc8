use Rattle.search_tree.proofs.GrowSteps.{grown_after}
use Rattle.search_tree.proofs.growing.grow_in.Goals as goal

pub returns-clause-ok : goal.returns-clause-ok
returns-clause-ok g c = grown_after _ _ _ _ _ _ _ c.make_slots.ensures.same c.in_ok-grow_root.ensures.ok
