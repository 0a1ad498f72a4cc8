use Rattle.std.proofs.Common.{refl, arith}
use Rattle.search_tree.proofs.FindingLemmas.{first_sees, step_sees}
use Rattle.search_tree.proofs.finding.see_all.Goals as goal

pub loop-next-init : goal.loop-next-init
loop-next-init g c = record {
  within = omega arith;
  sees = rw (c.in_ok-wait.ensures, c.new-left.ensures, c.new-slots.ensures) (first_sees _ _ _ _ _);
}

pub loop-next-preserved : goal.loop-next-preserved
loop-next-preserved g c = record {
  within = omega (arith, c.loop-next.invariant.within, c.if-seen-eq-SEEN_NODES.false);
  sees = step_sees _ _ _ _ _ _ _ _ _ _ c.in-Some.next _ refl c.loop-next.invariant.sees c.in-Some.ensures.items (rw c.at.ensures at c.in_ok-see_at.ensures);
}
