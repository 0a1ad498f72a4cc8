use Rattle.convex_parts.proofs.Steps.{step_made, step_none, step_last}
use Rattle.convex_parts.proofs.lines.step_at.Goals as goal

pub returns-in-Ok : goal.returns-in-Ok
returns-in-Ok c = step_made c.args.line.now c.args.index c.if-index-line.true c.in-Ok.part c.in-Ok.ensures

pub returns-in-Err : goal.returns-in-Err
returns-in-Err c = step_none c.args.line.now c.args.index c.if-index-line.true c.requires.range _ c.in-Err.ensures

pub returns-else-index-line : goal.returns-else-index-line
returns-else-index-line c = step_last c.args.line.now c.args.index c.requires.index c.if-index-line.false
