use Rattle.std.proofs.Common.{refl, sym, ◌∙◌, arith}
use Rattle.std.proofs.lemmas.Bool.{false≢true}
use Rattle.std.proofs.lemmas.Result.{err_from_is_err_and}
use Rattle.search_tree.specs.Advances.IsAdvance.{was_placed, overruns, goes_on, is_refused}
use Rattle.search_tree.proofs.tree.Tree.advance.Goals as goal

pub returns-then-placed-clause-step : goal.returns-then-placed-clause-step
returns-then-placed-clause-step g c = was_placed (sym c.placed.ensures ∙ c.if-placed.true) refl refl

pub returns-then-placed-clause-first : goal.returns-then-placed-clause-first
returns-then-placed-clause-first g c = λ may. absurd (false≢true (sym may.waits ∙ (sym c.placed.ensures ∙ c.if-placed.true)))

pub returns-then-step_limit-steps-clause-step : goal.returns-then-step_limit-steps-clause-step
returns-then-step_limit-steps-clause-step g c =
    let spent = c.if-step_limit-steps.true in
    overruns (sym c.placed.ensures ∙ c.if-placed.false) (omega (arith, c.step_limit.ensures, c.steps.ensures, spent)) refl refl

pub returns-then-step_limit-steps-clause-first : goal.returns-then-step_limit-steps-clause-first
returns-then-step_limit-steps-clause-first g c = λ may.
    let spent = c.if-step_limit-steps.true in
    let left = may.left in
    absurd (omega (arith, c.step_limit.ensures, c.steps.ensures, spent, left))

pub returns-clause-step : goal.returns-clause-step
returns-clause-step g c =
    let left = c.if-step_limit-steps.false in
    goes_on c.in_ok-arrival.arrival.step (record { waits = sym c.placed.ensures ∙ c.if-placed.false; left = omega (arith, c.step_limit.ensures, c.steps.ensures, left) }) c.count.ensures.step (rw (c.key.ensures, c.item.ensures) at c.in_ok-arrival.ensures.ok)

pub returns-clause-first : goal.returns-clause-first
returns-clause-first g c = λ may. rw c.count.ensures.at (rw (c.at.ensures, c.key.ensures, c.item.ensures) at c.in_ok-arrival.ensures.first)

pub returns-in_err-arrival-clause-step : goal.returns-in_err-arrival-clause-step
returns-in_err-arrival-clause-step g c =
    let left = c.if-step_limit-steps.false in
    let p = err_from_is_err_and c.from_residual.result c.from_residual.ensures.1 in
    rw (p.1, p.2) (is_refused c.in_err-arrival.field-0.0 (record { waits = sym c.placed.ensures ∙ c.if-placed.false; left = omega (arith, c.step_limit.ensures, c.steps.ensures, left) }) (rw c.item.ensures at c.in_err-arrival.ensures.err) c.in_err-arrival.ensures.untouched refl)
