use Rattle.search_tree.proofs.WalkSteps.{entry_inner, entry_within, entry_there, enlarged_sound, enlarged_call, has_enlarged}
use Rattle.search_tree.proofs.tree.Tree.enlarge.Goals as goal

pub set_key-requires-clause-inner : goal.set_key-requires-clause-inner
set_key-requires-clause-inner g c = entry_inner _ _ c.args.parent c.args.place c.args.old c.args.key c.args.child (rw (← c.self.view_is) at c.requires)

pub set_key-requires-clause-place : goal.set_key-requires-clause-place
set_key-requires-clause-place g c = entry_within _ _ c.args.parent c.args.place c.args.old c.args.key c.args.child (rw (← c.self.view_is) at c.requires)

pub invariant_of-self : goal.invariant_of-self
invariant_of-self g c =
    let laws = g.met.C.KeyClass.laws in
    let may = rw (← c.self.view_is) at c.requires in
    enlarged_sound _ _ _ laws c.args.parent c.args.place c.args.old c.args.key c.args.child may (rw c.union-union.ensures at (c.set_key.ensures c.args.old c.args.child (entry_there _ _ c.args.parent c.args.place c.args.old c.args.key c.args.child may))) c.self.invariant

pub returns-clause-alike : goal.returns-clause-alike
returns-clause-alike g c =
    let may = rw (← c.self.view_is) at c.requires in
    rw (← c.self.view_is) (enlarged_call _ _ _ c.args.parent c.args.place c.args.old c.args.key c.args.child may (rw c.union-union.ensures at (c.set_key.ensures c.args.old c.args.child (entry_there _ _ c.args.parent c.args.place c.args.old c.args.key c.args.child may))))

pub returns-clause-step : goal.returns-clause-step
returns-clause-step g c =
    let may = rw (← c.self.view_is) at c.requires in
    rw (← c.self.view_is) (has_enlarged _ _ _ c.args.parent c.args.place c.args.old c.args.key c.args.child may (rw c.union-union.ensures at (c.set_key.ensures c.args.old c.args.child (entry_there _ _ c.args.parent c.args.place c.args.old c.args.key c.args.child may))))
