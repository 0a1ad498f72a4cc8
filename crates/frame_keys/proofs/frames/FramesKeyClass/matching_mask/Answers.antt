use Rattle.std.specs.Prelude.{◌↔◌, IsBitSet}
use Rattle.std.proofs.Common.{subst}
use Rattle.plane.specs.Rows.{FramesMeet}
use Rattle.frame_keys.proofs.frames.FramesKeyClass.matching_mask.Goals as goal

pub returns-clause-each : goal.returns-clause-each
returns-clause-each c = λ i key found.
    subst (λ frame. IsBitSet c.meeting_mask.result i ↔ FramesMeet key frame) c.frame.ensures (c.meeting_mask.ensures.each i key found)
