use Rattle.std.proofs.Common.{◌≡◌, ◌+◌, ◌*◌, ◌≤◌, length}
use Rattle.decision.specs.Plans.{Branches, flat}
use Rattle.decision.proofs.RunLemmas.{Left}
use Rattle.decision.proofs.running.+run.Given as goal

abbrev pub decreases-run_step : goal.decreases-run_step
decreases-run_step g l = 2 * length l.below.now + 1

abbrev pub decreases-run_steps : goal.decreases-run_steps
decreases-run_steps g l = 2 * length l.steps.now

abbrev pub invariant-run_steps-loop-step : goal.invariant-run_steps-loop-step
invariant-run_steps-loop-step g l = record {
  left : (row : Branches) → l.steps ≡ flat _ row → Left _ l.question l.met l.combine row l.rest l.gathered;
  shorter : length l.rest ≤ length l.steps;
}

abbrev pub decreases-run_steps-loop-step : goal.decreases-run_steps-loop-step
decreases-run_steps-loop-step g l = length l.rest
