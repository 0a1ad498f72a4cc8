use Rattle.frame_keys.proofs.Meetings.{overlap_test}
use Rattle.frame_keys.proofs.masks.overlap.Goals as goal

pub returns : goal.returns
returns c = overlap_test c.args.low c.args.high c.args.other_low c.args.other_high c.requires.low c.requires.high c.requires.other_low c.requires.other_high
