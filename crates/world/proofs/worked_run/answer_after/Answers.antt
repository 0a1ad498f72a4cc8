use Rattle.std.proofs.Common.{◌∙◌}
use Rattle.world.specs.WorkedRun.{first_decider, first_starts, usual_limits}
use Rattle.world.proofs.worked_run.answer_after.Goals as goal

pub returns : goal.returns
returns g c =
    let made = rw c.in-Ok.ensures.ok at c.in_ok-make_all.ensures in
    let opening = c.every_run_is_ordered.ensures.opened c.args.subjects (first_decider c.args.document) first_starts usual_limits in
    let happens = c.in_ok-answer.ensures.happens in
    let exact = c.every_answer_is_exact.ensures.search _ _ _ made.steps c.args.seat c.args.search c.in_ok-answer.answer opening.0 made.run happens in
    record {
      there = c.make_all.new.world.plain;
      are_made = made;
      exact = exact.0;
      rising = c.every_run_is_ordered.ensures.rising _ _ _ made.steps c.args.seat c.args.search c.in_ok-answer.answer opening.1 made.run happens;
      accounts = exact.1;
      decider = exact.0.decider ∙ c.policy_in_force_is_the_last.ensures _ _ made.steps made.run;
    }
