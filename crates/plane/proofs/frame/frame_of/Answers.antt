use Rattle.plane.proofs.Covering.{extent_of-IsLeastFrame}
use Rattle.plane.proofs.Frames.{extended_done}
use Rattle.plane.proofs.frame.frame_of.Goals as goal

pub returns : goal.returns
returns c =
    let value = extended_done c.corners-points.result.now c.args.shape.now c.loop-point.point-index _ _ _ c.loop-point-test.false c.corners-points.ensures.canonical.not_empty c.point_frame-frame.ensures c.corners-points.ensures.value c.loop-point.invariant in
    record {
      value = value;
      least = extent_of-IsLeastFrame c.args.shape.now _ c.corners-points.ensures.canonical.not_empty value;
    }
