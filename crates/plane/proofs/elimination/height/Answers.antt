use Rattle.plane.proofs.Narrowing.{height_none, height_more, height_nowhere, height_some, height_without}
use Rattle.plane.proofs.elimination.height.Goals as goal

pub loop-row-init : goal.loop-row-init
loop-row-init c = height_none _ _ c.first_gap-gap.ensures

pub loop-row-preserved : goal.loop-row-preserved
loop-row-preserved c = height_more _ _ _ c.loop-row.gap _ c.loop-row-test.true c.loop-row.invariant c.in-Some.ensures.some

pub returns-in-None-clause-none : goal.returns-in-None-clause-none
returns-in-None-clause-none c = height_nowhere _ c.loop-row.row-index _ c.loop-row-test.true c.in-None.ensures.none

pub returns-clause-some : goal.returns-clause-some
returns-clause-some c = height_some _ c.loop-row.row-index c.loop-row.gap _ c.loop-row-test.false c.loop-row.invariant c.lowest.ensures.some

pub returns-clause-none : goal.returns-clause-none
returns-clause-none c = height_without _ c.loop-row.row-index c.loop-row.gap _ c.loop-row.invariant c.lowest.ensures.none
