use Rattle.std.proofs.Common.{arith, ◌∙◌}
use Rattle.wkt.proofs.RingLemmas.{keep_more, keep_full}
use Rattle.wkt.proofs.ring.keep.Goals as goal

pub returns-then-len-lt-KEPT : goal.returns-then-len-lt-KEPT
returns-then-len-lt-KEPT c = c.push.ensures.items ∙ keep_more c.args.listed.now.items c.args.point (omega (arith, c.len.ensures.value, c.if-len-lt-KEPT.true))

pub returns-else-len-lt-KEPT : goal.returns-else-len-lt-KEPT
returns-else-len-lt-KEPT c = keep_full c.args.listed.now.items c.args.point (omega (arith, c.len.ensures.value, c.len.ensures.fits, c.if-len-lt-KEPT.false))
