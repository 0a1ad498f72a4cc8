use Rattle.std.specs.Prelude.{map}
use Rattle.convex_parts.proofs.Holes.{region_start, region_more, region_end}
use Rattle.convex_parts.proofs.regions.convex_parts.Goals as goal

pub loop-hole-init : goal.loop-hole-init
loop-hole-init g c = λ f h.
    region_start (λ ring. ring.items) f c.args.rings.now c.in-Some.outer.now c.in-Some.others.now c.in_ok-ring.ring.items c.as_slice.result.now (map (λ ring. ring.items) c.in_ok-holes.holes.items)
    c.in-Some.ensures.cases.0 c.as_slice.ensures.value (c.in_ok-ring.ensures f h) (c.in_ok-holes.ensures f h)

pub loop-hole-preserved : goal.loop-hole-preserved
loop-hole-preserved g c = λ f h.
    region_more f _ c.loop-hole.ring.items c.as_slice-in-Some-take_least.result.now c.in-Some-take_least.hole.items c.as_slice-in-Some-take_least-2.result.now _ _ _
    (c.in_ok-ring-2.ensures f h) c.as_slice-in-Some-take_least.ensures.value c.as_slice-in-Some-take_least-2.ensures.value
    (c.in-Some-take_least.ensures.some f) (c.loop-hole.invariant f h)
