use Rattle.std.proofs.Common.{ap, ◌∙◌}
use Rattle.std.specs.Int.{from_bool}
use Rattle.frame_keys.proofs.Meetings.{or_nothing}
use Rattle.frame_keys.proofs.masks.with_bit_if.Goals as goal

pub returns-clause-unwanted : goal.returns-clause-unwanted
returns-clause-unwanted c = λ off. or_nothing c.args.mask c.from.result _ (c.from.ensures ∙ ap from_bool off)
