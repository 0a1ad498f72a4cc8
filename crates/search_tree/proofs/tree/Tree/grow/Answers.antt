use Rattle.search_tree.proofs.GrowSteps.{full_root, grown_sound_either, grown_call_ok, grown_call_err}
use Rattle.search_tree.proofs.tree.Tree.grow.Goals as goal

pub grow_in-requires : goal.grow_in-requires
grow_in-requires g c = full_root _ _ (rw (← c.self.view_is) at c.requires) c.self.invariant

pub invariant_of-self : goal.invariant_of-self
invariant_of-self g c = grown_sound_either _ _ _ g.C.KeyClass.picks c.grow_in.result c.grow_in.ensures.ok c.grow_in.ensures.err c.self.invariant

pub returns-clause-ok : goal.returns-clause-ok
returns-clause-ok g c = rw (← c.self.view_is) (grown_call_ok _ _ _ g.C.KeyClass.picks c.grow_in.result c.grow_in.ensures.ok c.self.invariant)

pub returns-clause-err : goal.returns-clause-err
returns-clause-err g c = rw (← c.self.view_is) (grown_call_err _ _ _ c.grow_in.result c.grow_in.ensures.err c.self.invariant)
