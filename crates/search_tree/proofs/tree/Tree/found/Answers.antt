use Rattle.std.proofs.Common.{sym, ◌∙◌}
use Rattle.search_tree.proofs.Complete.{complete_there}
use Rattle.search_tree.proofs.Openings.{found_there}
use Rattle.search_tree.proofs.tree.Tree.found.Goals as goal

pub returns-in-Some-clause-value : goal.returns-in-Some-clause-value
returns-in-Some-clause-value g c =
    let first = rw c.deref.ensures.value at c.in-Some.ensures.found in
    rw (← c.self.view_is) (c.found.ensures ∙ sym (found_there _ _ c.args.search c.in-Some.at c.index.result.now c.self.invariant first (sym c.index.ensures)))

pub returns-in-Some-clause-complete : goal.returns-in-Some-clause-complete
returns-in-Some-clause-complete g c =
    let laws = g.met.C.KeyClass.laws in
    let first = rw c.deref.ensures.value at c.in-Some.ensures.found in
    rw (← c.self.view_is, c.found.ensures ∙ sym (found_there _ _ c.args.search c.in-Some.at c.index.result.now c.self.invariant first (sym c.index.ensures))) (complete_there _ _ c.args.search laws c.self.invariant)
