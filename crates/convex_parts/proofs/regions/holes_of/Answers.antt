use Rattle.convex_parts.proofs.Holes.{one_more_hole, all_holes}
use Rattle.convex_parts.proofs.regions.holes_of.Goals as goal

pub loop-hole-preserved : goal.loop-hole-preserved
loop-hole-preserved g c = λ f h.
    one_more_hole (λ ring. ring.items) f c.loop-hole.holes.items _ c.args.listed.now c.loop-hole.hole-index c.in_ok-ring.ring c.hole-item.result c.as_slice.result.now
    c.loop-hole-test.true c.hole-item.is c.as_slice.ensures.value (c.in_ok-ring.ensures f h) c.in_ok-try_push.ensures.items (c.loop-hole.invariant f h)

pub returns : goal.returns
returns g c = λ f h. all_holes (λ ring. ring.items) f c.loop-hole.holes.items c.args.listed.now c.loop-hole.hole-index c.loop-hole-test.false (c.loop-hole.invariant f h)
