use Rattle.search_tree.proofs.CleanSteps.{clean_leaf, cleaned_sound, cleaned_less, cleaned_call, cleaned_step}
use Rattle.search_tree.proofs.tree.Tree.clean.Goals as goal

pub keep-requires : goal.keep-requires
keep-requires g c = clean_leaf _ _ c.args.at (rw (← c.self.view_is) at c.requires)

pub invariant_of-self : goal.invariant_of-self
invariant_of-self g c =
    let laws = g.met.C.KeyClass.laws in
    cleaned_sound _ _ c.args.at (rw (← c.self.view_is) at c.requires) _ _ c.keep.ensures laws c.self.invariant

pub returns-clause-contents : goal.returns-clause-contents
returns-clause-contents g c = rw (← c.self.view_is) (cleaned_less _ _ c.args.at (rw (← c.self.view_is) at c.requires) _ _ c.keep.ensures c.self.invariant)

pub returns-clause-tended : goal.returns-clause-tended
returns-clause-tended g c = rw (← c.self.view_is) (cleaned_call _ _ c.args.at (rw (← c.self.view_is) at c.requires) _ _ c.keep.ensures)

pub returns-clause-step : goal.returns-clause-step
returns-clause-step g c = rw (← c.self.view_is) (cleaned_step _ _ c.args.at (rw (← c.self.view_is) at c.requires) _ _ c.keep.ensures)
