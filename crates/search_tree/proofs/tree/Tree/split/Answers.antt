use Rattle.search_tree.proofs.SplitSteps.{split_sound_either, split_call_ok, split_call_err}
use Rattle.search_tree.proofs.tree.Tree.split.Goals as goal

pub invariant_of-self : goal.invariant_of-self
invariant_of-self g c = split_sound_either _ _ _ c.args.at g.C.KeyClass.picks c.split_in.result c.split_in.ensures.ok c.split_in.ensures.err c.self.invariant

pub returns-clause-ok : goal.returns-clause-ok
returns-clause-ok g c = rw (← c.self.view_is) (split_call_ok _ _ _ c.args.at g.C.KeyClass.picks c.split_in.result c.split_in.ensures.ok c.self.invariant)

pub returns-clause-err : goal.returns-clause-err
returns-clause-err g c = rw (← c.self.view_is) (split_call_err _ _ _ c.args.at c.split_in.result c.split_in.ensures.err c.self.invariant)
