use Rattle.std.proofs.Common.{◌∙◌}
use Rattle.hall.proofs.Refusals.{on_err}
use Rattle.hall.proofs.committing.committed.Goals as goal

pub returns-in_err-wait_or_give_up-in-Err-Refused-clause-err : goal.returns-in_err-wait_or_give_up-in-Err-Refused-clause-err
returns-in_err-wait_or_give_up-in-Err-Refused-clause-err g c = on_err _ _ (c.in-Err-Refused.ensures.err ∙ c.loop.invariant.2)
