use Rattle.std.proofs.Common.{arith, refl}
use Rattle.std.proofs.lemmas.Option.{slice_get_read, slice_get_within}
use Rattle.plane.specs.Rows.{FramesMeet}
use Rattle.frame_keys.proofs.MaskBits.{tells_tested}
use Rattle.frame_keys.proofs.masks.meeting_mask.Goals as goal

pub loop-i-preserved : goal.loop-i-preserved
loop-i-preserved c =
    let here = slice_get_read c.args.frames.now _ c.loop-i.i _ refl c.loop-i-test.true c.index-frames-i.is in
    let bit = c.with_bit_if-mask.ensures in
    tells_tested (λ i frame. FramesMeet frame c.args.other) c.args.frames.now c.loop-i.mask c.with_bit_if-mask.result c.loop-i.i c.index-frames-i.result here c.do_meet.result c.do_meet.ensures bit.set bit.others bit.unwanted c.loop-i.invariant

pub returns-clause-each : goal.returns-clause-each
returns-clause-each c = λ i frame found. c.loop-i.invariant.each i frame (let h = slice_get_within c.args.frames.now i frame found in omega arith) found
