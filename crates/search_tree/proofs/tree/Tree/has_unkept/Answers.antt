use Rattle.std.proofs.Common.{sym}
use Rattle.search_tree.proofs.DueLemmas.{unkept_there}
use Rattle.search_tree.proofs.NeedLemmas.{may_clean}
use Rattle.search_tree.proofs.tree.Tree.has_unkept.Goals as goal

pub returns-clause-may : goal.returns-clause-may
returns-clause-may g c = λ unkept. rw (← c.self.view_is) (may_clean _ _ c.self.invariant c.args.at c.in-Some.node.now (sym c.in-Some.ensures.value) (c.is_leaf.ensures.leaf c.if-not-is_leaf.false))

pub returns-clause-due : goal.returns-clause-due
returns-clause-due g c = rw (← c.self.view_is) (unkept_there _ _ c.self.invariant (λ key item. g.K.Keeper.kept c.args.keeper.now key item) c.args.at c.in-Some.node.now c.pairs.result.now c.is_one_unkept.result (sym c.in-Some.ensures.value) c.pairs.ensures.value c.is_one_unkept.ensures.some c.is_one_unkept.ensures.none)
