use Rattle.std.proofs.Common.{◌∙◌, arith}
use Rattle.convex_parts.proofs.Runs.{straight_read}
use Rattle.convex_parts.proofs.rings.drop_straight.Goals as goal

pub loop-at-preserved-then-is_straight : goal.loop-at-preserved-then-is_straight
loop-at-preserved-then-is_straight g c = record {
  adds_up = λ f h.
      straight_read f h c.loop-at.ring.items c.as_slice.result.now c.loop-at.at c.as_slice.ensures.value (omega arith) (c.is_straight.ensures c.if-is_straight.true) _ c.remove.ensures.items
      ∙ c.loop-at.invariant.adds_up f h;
  within = λ above. omega arith;
}
