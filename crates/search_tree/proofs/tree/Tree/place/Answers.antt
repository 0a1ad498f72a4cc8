use Rattle.search_tree.proofs.WalkSteps.{placed_sound, placed_step, placed_behind_none}
use Rattle.search_tree.proofs.tree.Tree.place.Goals as goal

pub invariant_of-self : goal.invariant_of-self
invariant_of-self g c =
    let laws = g.met.C.KeyClass.laws in
    placed_sound _ _ _ laws c.args.at (c.args.key, c.args.item) (rw (← c.self.view_is) at c.requires) c.push_pair.ensures c.self.invariant

pub returns-clause-placed : goal.returns-clause-placed
returns-clause-placed g c =
    let laws = g.met.C.KeyClass.laws in
    rw (← c.self.view_is) (placed_behind_none _ _ _ laws c.args.at (c.args.key, c.args.item) (rw (← c.self.view_is) at c.requires) c.push_pair.ensures c.self.invariant)

pub returns-clause-step : goal.returns-clause-step
returns-clause-step g c = rw (← c.self.view_is) (placed_step _ _ _ c.args.at (c.args.key, c.args.item) (rw (← c.self.view_is) at c.requires) c.push_pair.ensures)
