use Rattle.std.proofs.Common.{arith}
use Rattle.convex_parts.proofs.PathSums.{one_more_part}
use Rattle.convex_parts.proofs.cuts.cut_all.Goals as goal

pub loop-ring-preserved : goal.loop-ring-preserved
loop-ring-preserved g c = record {
  adds_up = λ f h.
      one_more_part f c.loop-ring.parts.items _ _ _ _ _ c.in_ok-try_push.ensures.items (c.in-Some.ensures.some f h) (c.loop-ring.invariant.adds_up f h);
  within = omega (arith, c.in_ok-try_push.ensures.len, c.loop-ring.invariant.within);
}
