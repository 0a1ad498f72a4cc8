use Rattle.std.specs.Prelude.{refl}
use Rattle.plane.proofs.Hulls.{common_corner}
use Rattle.plane.proofs.meeting.corner_in.Goals as goal

pub returns-then-lies_in : goal.returns-then-lies_in
returns-then-lies_in c =
    common_corner c.args.shape.now c.args.other.now c.corners-corner-items.result.now c.loop-corner.corner-index _ c.whole_point.result c.corners-corner-items.ensures.canonical c.corners-corner-items.ensures.value
    c.loop-corner-test.true c.whole_point.ensures.x c.whole_point.ensures.y c.whole_point.ensures.w (c.if-lies_in.ensures.0 refl)
