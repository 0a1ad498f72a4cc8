use Rattle.std.proofs.Common.{◌∙◌, arith}
use Rattle.grid.proofs.StepsLemmas.{multiplied_more, multiplied_none}
use Rattle.grid.proofs.steps.multiplied.Goals as goal

pub loop-init : goal.loop-init
loop-init c = (multiplied_none _ c.args.value c.requires, c.requires)

pub loop-preserved : goal.loop-preserved
loop-preserved c = (
  c.min-product.ensures ∙ multiplied_more _ c.args.value c.loop.counter c.loop.product c.loop.invariant.0,
  omega (arith, c.min-product.ensures),
)
