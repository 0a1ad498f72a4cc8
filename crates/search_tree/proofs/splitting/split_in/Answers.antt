use Rattle.search_tree.proofs.SplitSteps.{split_after}
use Rattle.search_tree.proofs.splitting.split_in.Goals as goal

pub returns-clause-ok : goal.returns-clause-ok
returns-clause-ok g c = split_after _ _ _ _ _ _ _ c.make_slots.ensures.same c.in_ok-right.ensures.ok
