use Rattle.search_tree.proofs.DescentLemmas.{list_set}
use Rattle.search_tree.proofs.WalkSteps.{joined_sound, joined_call}
use Rattle.search_tree.proofs.tree.Tree.join.Goals as goal

pub invariant_of-self : goal.invariant_of-self
invariant_of-self g c =
    let laws = g.met.C.KeyClass.laws in
    let may = rw (← c.self.view_is) at c.requires.may in
    joined_sound _ _ _ laws c.args.at c.args.searches.now may (list_set _ c.args.searches.now _ _ c.args.at _ c.in_ok-list.ensures c.set_attached.ensures) c.self.invariant

pub returns-clause-ok : goal.returns-clause-ok
returns-clause-ok g c =
    let may = rw (← c.self.view_is) at c.requires.may in
    rw (← c.self.view_is) (joined_call _ _ _ c.args.at c.args.searches.now may (list_set _ c.args.searches.now _ _ c.args.at _ c.in_ok-list.ensures c.set_attached.ensures))
