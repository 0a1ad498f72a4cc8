use Rattle.std.proofs.Common.{rules, take, drop, sym, ap, ◌∙◌, arith}
use Rattle.combining.specs.Gathering.{with_verdict}
use Rattle.decision.specs.Plans.{gathered_from}
use Rattle.decision.proofs.RunLemmas.{left-more, left-finished, left-none, fits-left, flat-left}
use Rattle.decision.proofs.running.+run.Goals as goal

pub run_step-run_steps-requires : goal.run_step-run_steps-requires
run_step-run_steps-requires g t c κs within = (omega (arith, c.decreases), (search rules, c.requires))

pub run_steps-loop-step-init : goal.run_steps-loop-step-init
run_steps-loop-step-init g t c = record {
  left = λ row is. record { left = row; is = is; same = ap (λ h. gathered_from c.args.question.now c.args.met.now c.args.combine h row) (sym c.new-gathered.ensures) };
  shorter = omega arith;
}

pub run_steps-returns-then-is_finished : goal.run_steps-returns-then-is_finished
run_steps-returns-then-is_finished g t c row is =
    c.settle.ensures ∙ left-finished _ c.args.question.now c.args.met.now c.args.combine row c.loop-step.rest.now c.loop-step.gathered (c.loop-step.invariant.left row is) (sym c.is_finished.ensures ∙ c.if-is_finished.true)

pub run_steps-split_at-requires : goal.run_steps-split_at-requires
run_steps-split_at-requires g t c =
    rw c.count_below.ensures (fits-left _ c.args.question.now c.args.met.now c.args.combine c.requires.0 c.loop-step.rest.now c.loop-step.gathered c.in-Some.step.now c.in-Some.behind.now
    (c.loop-step.invariant.left c.requires.0 c.requires.1) c.in-Some.ensures.cases.0)

pub run_steps-run_step-verdict-requires : goal.run_steps-run_step-verdict-requires
run_steps-run_step-verdict-requires g t c κs within = (
  omega (arith, c.decreases, c.split_at.ensures.front_len, c.split_at.ensures.back_len, c.in-Some.ensures.cases.1, c.loop-step.invariant.shorter),
  (
    search rules,
    flat-left _ c.args.question.now c.args.met.now c.args.combine c.requires.0 c.loop-step.rest.now c.loop-step.gathered c.in-Some.step.now c.in-Some.behind.now c.split_at.result.0.now
        (c.loop-step.invariant.left c.requires.0 c.requires.1) c.in-Some.ensures.cases.0 (c.split_at.ensures.front ∙ ap (λ k. take k c.in-Some.behind.now) c.count_below.ensures),
  ),
)

pub run_steps-loop-step-smaller : goal.run_steps-loop-step-smaller
run_steps-loop-step-smaller g t c = omega (arith, c.split_at.ensures.back_len, c.in-Some.ensures.cases.1)

pub run_steps-loop-step-preserved : goal.run_steps-loop-step-preserved
run_steps-loop-step-preserved g t c = record {
  left = λ row is.
      left-more _ c.args.question.now c.args.met.now c.args.combine row c.loop-step.rest.now c.loop-step.gathered c.in-Some.step.now c.in-Some.behind.now c.split_at.result.0.now c.split_at.result.1.now c.with-gathered.result
      (c.loop-step.invariant.left row is) c.in-Some.ensures.cases.0 (c.split_at.ensures.front ∙ ap (λ k. take k c.in-Some.behind.now) c.count_below.ensures)
      (c.split_at.ensures.back ∙ ap (λ k. drop k c.in-Some.behind.now) c.count_below.ensures)
      (λ below_row below_is. c.with-gathered.ensures ∙ ap (with_verdict c.args.combine c.loop-step.gathered) (c.run_step-verdict.ensures below_row below_is));
  shorter = omega (arith, c.split_at.ensures.back_len, c.in-Some.ensures.cases.1, c.loop-step.invariant.shorter);
}

pub run_steps-returns : goal.run_steps-returns
run_steps-returns g t c row is =
    c.settle-2.ensures ∙ left-none _ c.args.question.now c.args.met.now c.args.combine row c.loop-step.rest.now c.loop-step.gathered (c.loop-step.invariant.left row is) c.in_default.ensures.cases
