use Rattle.plane.specs.Rows.{FramesMeet}
use Rattle.frame_keys.proofs.MaskBits.{Tells}
use Rattle.frame_keys.proofs.masks.meeting_mask.Given as goal

abbrev pub invariant-loop-i : goal.invariant-loop-i
invariant-loop-i l = Tells (λ i frame. FramesMeet frame l.other) l.frames l.mask l.i
