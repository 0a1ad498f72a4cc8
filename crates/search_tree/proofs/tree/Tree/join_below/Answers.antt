use Rattle.std.proofs.Common.{sym, ◌∙◌}
use Rattle.search_tree.proofs.DescentLemmas.{on_ok, may_alone, alone_joined}
use Rattle.search_tree.proofs.tree.Tree.join_below.Goals as goal

pub join-requires-clause-may : goal.join-requires-clause-may
join-requires-clause-may g c =
    let laws = g.met.C.KeyClass.laws in
    let may = rw (← c.self.view_is) at c.requires.may in
    rw (← c.self.view_is) (may_alone _ _ laws c.self.invariant c.args.child c.args.searches.now may (sym c.marked_right.ensures ∙ c.in-None.is))

pub returns-in-None-clause-ok : goal.returns-in-None-clause-ok
returns-in-None-clause-ok g c =
    let laws = g.met.C.KeyClass.laws in
    let may = rw (← c.self.view_is) at c.requires.may in
    rw (← c.self.view_is) (on_ok c.join.result _ _ (alone_joined _ _ laws c.self.invariant c.args.child c.args.searches.now may (sym c.marked_right.ensures ∙ c.in-None.is) c.join.new.self) (rw (← c.self.view_is) at c.join.ensures.ok))
