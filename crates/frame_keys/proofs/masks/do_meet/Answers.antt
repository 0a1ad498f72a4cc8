use Rattle.frame_keys.proofs.Meetings.{meet_test}
use Rattle.frame_keys.proofs.masks.do_meet.Goals as goal

pub returns : goal.returns
returns c = meet_test c.args.one c.args.other c.overlap.result c.overlap-2.result c.x0.ensures.frame c.x0-2.ensures.frame
    (rw (c.x0.ensures.value, c.x1.ensures, c.x0-2.ensures.value, c.x1-2.ensures) at c.overlap.ensures)
    (rw (c.y0.ensures, c.y1.ensures, c.y0-2.ensures, c.y1-2.ensures) at c.overlap-2.ensures)
