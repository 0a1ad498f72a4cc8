use Rattle.combining.proofs.TallyLemmas.{tally_of-take}
use Rattle.combining.proofs.algorithms.combine.Goals as goal

pub loop-decision-preserved : goal.loop-decision-preserved
loop-decision-preserved c = rw (c.with-tally.ensures, c.loop-decision.invariant) (tally_of-take _ _ _ c.loop-decision-test.true)
