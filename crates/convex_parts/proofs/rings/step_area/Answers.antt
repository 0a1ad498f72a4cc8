use Rattle.convex_parts.specs.Paths.{doubled_area}
use Rattle.convex_parts.proofs.Runs.{step_off}
use Rattle.convex_parts.proofs.rings.step_area.Goals as goal

pub returns-else-index-ring-clause-value : goal.returns-else-index-ring-clause-value
returns-else-index-ring-clause-value c = step_off doubled_area c.args.ring.now c.args.index c.requires c.if-index-ring.false
