use Rattle.std.proofs.Common.{◌∙◌, arith}
use Rattle.grid.proofs.DigitsLemmas.{digit_in_range, capped_more}
use Rattle.grid.proofs.values.value_after.Goals as goal

pub overflow_sub-digit : goal.overflow_sub-digit
overflow_sub-digit c = (digit_in_range c.args.digits.now c.loop-digit.digit-index c.requires.digits c.loop-digit-test.true).0

pub loop-digit-preserved : goal.loop-digit-preserved
loop-digit-preserved c = (
  c.min-value.ensures ∙ capped_more _ _ c.args.digits.now c.loop-digit.digit-index c.loop-digit.value c.requires.digits c.loop-digit-test.true c.loop-digit.invariant.0,
  omega (arith, c.min-value.ensures),
)
