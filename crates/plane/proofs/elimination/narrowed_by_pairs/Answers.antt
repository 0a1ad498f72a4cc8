use Rattle.plane.proofs.Narrowing.{paired_more, paired_nowhere, paired_all}
use Rattle.plane.proofs.elimination.narrowed_by_pairs.Goals as goal

pub loop-other-preserved : goal.loop-other-preserved
loop-other-preserved c = paired_more _ _ _ _ _ c.loop-other.gap _ c.loop-other-test.true c.loop-other.invariant c.in-Some.ensures.some

pub returns-in-None-clause-none : goal.returns-in-None-clause-none
returns-in-None-clause-none c = paired_nowhere _ _ c.loop-other.other-index _ c.loop-other-test.true c.in-None.ensures.none

pub returns-clause-some : goal.returns-clause-some
returns-clause-some c = paired_all _ _ c.loop-other.other-index _ _ c.loop-other-test.false c.loop-other.invariant
