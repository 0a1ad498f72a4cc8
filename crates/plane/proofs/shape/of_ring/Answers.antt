use Rattle.std.proofs.Common.{ap, sym, ◌∙◌}
use Rattle.plane.specs.Rings.{goes_left}
use Rattle.plane.proofs.RingTests.{convex_if}
use Rattle.plane.proofs.Rotations.{reversed_if, reversed_in_range}
use Rattle.plane.proofs.shape.of_ring.Goals as goal

pub of_convex_ring-requires : goal.of_convex_ring-requires
of_convex_ring-requires c = convex_if _ c.requires.in_range c.requires.at_least c.requires.at_most c.if-has_repeat.ensures c.if-is_flat.ensures c.if-goes_left.ensures

pub goes_left-requires-2 : goal.goes_left-requires-2
goes_left-requires-2 c = reversed_in_range c.args.ring.now _ _ c.requires.in_range c.reversed-other_way.ensures c.as_slice.ensures.value

pub of_convex_ring-requires-then-goes_left-2 : goal.of_convex_ring-requires-then-goes_left-2
of_convex_ring-requires-then-goes_left-2 c =
    reversed_if c.args.ring.now _ c.as_slice-then-goes_left-2.result.now c.requires.in_range c.requires.at_least c.requires.at_most c.if-has_repeat.ensures c.if-is_flat.ensures
    c.reversed-other_way.ensures c.as_slice-then-goes_left-2.ensures.value (c.if-goes_left-2.ensures ∙ ap goes_left (c.as_slice.ensures.value ∙ sym c.as_slice-then-goes_left-2.ensures.value))
