use Rattle.std.proofs.Common.{rules, arith}
use Rattle.configuration.proofs.FileLemmas.{taken-too-much, taken-whole}
use Rattle.configuration.specs.declared.files.TheConstants.{CONFIG_LIMIT}
use Rattle.configuration.proofs.files.whole_file.Goals as goal

pub returns-then-count-eq0-clause-whole : goal.returns-then-count-eq0-clause-whole
returns-then-count-eq0-clause-whole g c =
    let taken = rw c.if-count-eq0.true at c.in_ok-count.ensures.bytes.0 in
    taken-whole _ _ _ _ c.loop.invariant.taken taken (c.in_ok-count.ensures.bytes.1 c.if-count-eq0.true (search rules))

pub returns-then-count-len-clause-unread : goal.returns-then-count-len-clause-unread
returns-then-count-len-clause-unread g c =
    taken-too-much _ _ _ _ _ CONFIG_LIMIT c.loop.invariant.taken c.in_ok-count.ensures.bytes.0 (omega (arith, c.if-count-len.true, c.in_ok-count.ensures.bound.1, c.loop.invariant.fits))

pub returns-clause-unread : goal.returns-clause-unread
returns-clause-unread g c = absurd (omega (arith, c.loop.invariant.enough, c.loop.invariant.fits, c.loop-test.false))
