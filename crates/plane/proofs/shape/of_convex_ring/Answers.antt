use Rattle.plane.proofs.Rings.{kept_corners}
use Rattle.plane.proofs.shape.of_convex_ring.Goals as goal

pub invariant_of-result : goal.invariant_of-result
invariant_of-result c =
    kept_corners c.args.ring.now c.corners_from_least-found.result.items c.as_slice.result.now _ _ _ c.requires c.corners_from_least-found.ensures c.as_slice.ensures.value
    c.len.ensures.value c.len-2.ensures.value c.if-len-gt-CORNER_LIMIT.false c.places_of-places.ensures
