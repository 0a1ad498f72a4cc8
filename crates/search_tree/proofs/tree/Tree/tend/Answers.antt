use Rattle.std.proofs.Common.{subst, IfOk, IsSome, IsTrue}
use Rattle.node_arena.specs.Slots.{value_at}
use Rattle.search_tree.specs.Dues.{AnswersFirst}
use Rattle.search_tree.specs.Tends.{StepsAt}
use Rattle.tree_nodes.proofs.ListEnds.{some_one}
use Rattle.search_tree.proofs.tree.Tree.tend.Goals as goal

pub returns-in-Some-clause-first : goal.returns-in-Some-clause-first
returns-in-Some-clause-first g c = λ at slot live.
    let there = rw (← c.self.view_is) at live in
    let same = some_one c.in-Some.is ((c.at_slot.ensures at).1 (slot, there)) in
    subst (λ h. IsSome (value_at c.args.self.now.nodes h) → AnswersFirst g.C.KeyClass.class c.args.self.now (λ pair. IsTrue (g.K.Keeper.kept c.args.keeper.now pair.0 pair.1)) h c.tend_at.result) same c.tend_at.ensures.first live

pub returns-in-Some-clause-step : goal.returns-in-Some-clause-step
returns-in-Some-clause-step g c = λ at slot live.
    let there = rw (← c.self.view_is) at live in
    let same = some_one c.in-Some.is ((c.at_slot.ensures at).1 (slot, there)) in
    subst (λ h. IfOk c.tend_at.result (StepsAt g.C.KeyClass.class c.args.self.now (λ pair. IsTrue (g.K.Keeper.kept c.args.keeper.now pair.0 pair.1)) h c.tend_at.new.self)) same c.tend_at.ensures.step
