use Rattle.std.proofs.lemmas.List.{take_all}
use Rattle.client.proofs.LineLemmas.{feed_found}
use Rattle.client.proofs.ahead.first_feed.Goals as goal

pub returns-then-bytes-at-eq10 : goal.returns-then-bytes-at-eq10
returns-then-bytes-at-eq10 c = feed_found c.args.bytes.now c.loop-at.at c.loop-at-test.true c.loop-at.invariant c.if-bytes-at-eq10.true

pub returns : goal.returns
returns c = rw (take_all c.loop-at.at c.args.bytes.now c.loop-at-test.false) at c.loop-at.invariant
