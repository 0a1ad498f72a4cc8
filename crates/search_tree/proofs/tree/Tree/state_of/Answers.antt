use Rattle.std.proofs.Common.{sym, ◌∙◌, arith}
use Rattle.search_tree.proofs.VisitCalls.{now_ready, now_spent, now_waits}
use Rattle.search_tree.proofs.tree.Tree.state_of.Goals as goal

pub returns-then-is_ready : goal.returns-then-is_ready
returns-then-is_ready g c =
    let first = rw c.deref.ensures.value at c.in-Some.ensures.found in
    rw (← c.self.view_is) (now_ready _ _ c.args.search c.in-Some.at c.index-progress.result.now c.self.invariant first (sym c.index-progress.ensures) (sym c.is_ready.ensures ∙ c.if-is_ready.true))

pub returns-then-limit-steps : goal.returns-then-limit-steps
returns-then-limit-steps g c =
    let first = rw c.deref.ensures.value at c.in-Some.ensures.found in
    let limit = rw (← c.self.view_is) at c.step_limit-limit.ensures in
    let spent = c.if-limit-steps.true in
    rw (← c.self.view_is) (now_spent _ _ c.args.search c.in-Some.at c.index-progress.result.now c.self.invariant first (sym c.index-progress.ensures) (sym c.is_ready.ensures ∙ c.if-is_ready.false) (omega (arith, limit, spent, c.steps.ensures)))

pub returns : goal.returns
returns g c =
    let first = rw c.deref.ensures.value at c.in-Some.ensures.found in
    let limit = rw (← c.self.view_is) at c.step_limit-limit.ensures in
    let fits = c.step_limit-limit.type_inv in
    let left = c.if-limit-steps.false in
    rw (← c.self.view_is) (now_waits _ _ c.args.search c.in-Some.at c.index-progress.result.now c.self.invariant first (sym c.index-progress.ensures) (sym c.is_ready.ensures ∙ c.if-is_ready.false) (omega (arith, limit, left, c.steps.ensures)) (omega (arith, limit, fits)))
