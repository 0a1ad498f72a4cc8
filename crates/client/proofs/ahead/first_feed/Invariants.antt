use Rattle.std.proofs.Common.{take}
use Rattle.line_streams.specs.Streams.{IsLine}
use Rattle.client.proofs.ahead.first_feed.Given as goal

abbrev pub invariant-loop-at : goal.invariant-loop-at
invariant-loop-at l = IsLine (take l.at l.bytes)
