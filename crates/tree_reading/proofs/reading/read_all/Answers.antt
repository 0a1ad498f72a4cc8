use Rattle.std.proofs.Common.{refl, arith}
use Rattle.tree_reading.proofs.ReadingLemmas.{step_reads}
use Rattle.tree_reading.proofs.reading.read_all.Goals as goal

pub loop-at-preserved : goal.loop-at-preserved
loop-at-preserved g c = record {
  within = omega (arith, c.loop-at.invariant.within, c.if-steps-limit.false);
  reads = step_reads _ _ _ _ _ _ _ _ _ c.in-Some.at _ refl c.loop-at.invariant.reads c.in-Some.ensures.items c.in_ok-read_at.ensures;
}
