use Rattle.std.specs.Prelude.{refl}
use Rattle.plane.proofs.Covering.{meet_by_y, meet_not}
use Rattle.plane.proofs.frame.frames_meet.Goals as goal

pub returns-then-overlap : goal.returns-then-overlap
returns-then-overlap c = meet_by_y _ _ _ _ _ c.first.view_is c.second.view_is c.first.invariant c.second.invariant (c.if-overlap.ensures.0 refl) c.overlap-then-overlap.ensures

pub returns-else-overlap : goal.returns-else-overlap
returns-else-overlap c = meet_not _ _ _ _ _ c.first.view_is c.second.view_is c.first.invariant c.second.invariant c.if-overlap.false c.if-overlap.ensures.1
