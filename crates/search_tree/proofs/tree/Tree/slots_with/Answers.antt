use Rattle.search_tree.proofs.FindingLemmas.{if_ok_map, sees_all}
use Rattle.search_tree.proofs.tree.Tree.slots_with.Goals as goal

pub returns-clause-all : goal.returns-clause-all
returns-clause-all g c =
    let laws = g.met.C.KeyClass.laws in
    rw (← c.self.view_is) (if_ok_map c.see_all.result (λ slots sees. sees_all _ _ _ _ slots.items laws c.self.invariant sees) c.see_all.ensures)

pub returns-clause-only : goal.returns-clause-only
returns-clause-only g c =
    rw (← c.self.view_is) (if_ok_map c.see_all.result (λ slots sees. sees.seeing.only) c.see_all.ensures)
