use Rattle.plane.proofs.Hulls.{none_met, frames_apart, apart_first, apart_second}
use Rattle.plane.proofs.ShapeRows.{found}
use Rattle.plane.proofs.meeting.common_point.Goals as goal
use Rattle.plane.proofs.meeting.common_point.Goals.{then-is_apart-via-then-is_apart, then-is_apart-via-else-is_apart+then-is_apart-2}

pub returns-then-not-frames_meet-clause-found : goal.returns-then-not-frames_meet-clause-found
returns-then-not-frames_meet-clause-found c =
    none_met c.args.first.now c.args.second.now
    (frames_apart c.args.first.now c.args.second.now c.frame_of-first_frame.result c.frame_of-second_frame.result c.frame_of-first_frame.ensures.value c.frame_of-second_frame.ensures.value c.if-not-frames_meet.ensures.1)

pub returns-then-is_apart-clause-found : goal.returns-then-is_apart-clause-found
returns-then-is_apart-clause-found c =
    none_met c.args.first.now c.args.second.now (elim c.then-is_apart.branch [
      | then-is_apart-via-then-is_apart w ↦ apart_first c.args.first.now c.args.second.now c.corners.result.now c.corners-2.result.now c.is_apart.result c.corners.ensures.value c.corners-2.ensures.value
          c.corners-2.ensures.canonical c.is_apart.ensures w.if-is_apart.true
      | then-is_apart-via-else-is_apart+then-is_apart-2 w ↦ apart_second c.args.first.now c.args.second.now w.corners-else-is_apart.result.now w.corners-else-is_apart-2.result.now w.is_apart-else-is_apart.result
          w.corners-else-is_apart.ensures.value w.corners-else-is_apart-2.ensures.value w.corners-else-is_apart-2.ensures.canonical w.is_apart-else-is_apart.ensures w.if-is_apart-2.true
    ])

pub returns-clause-found : goal.returns-clause-found
returns-clause-found c = found c.args.first.now c.args.second.now c.by_elimination.result c.by_elimination.ensures.common c.by_elimination.ensures.none
