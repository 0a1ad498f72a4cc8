use Rattle.line_streams.proofs.StreamLemmas.{byte_held, feed_passed, feed_stopped}
use Rattle.line_streams.proofs.streams.take_byte.Goals as goal

pub returns-then-byte-ne10 : goal.returns-then-byte-ne10
returns-then-byte-ne10 g c begun whole holds = rw c.hold.ensures (byte_held g.D.LineDesk.tells begun _ c.args.byte _ _ whole holds c.if-byte-ne10.true)

pub returns-in_err-answer_line : goal.returns-in_err-answer_line
returns-in_err-answer_line g c begun whole holds =
    feed_stopped g.D.LineDesk.tells c.from_residual.result _ c.from_residual.ensures.1 g.met.D.LineDesk.long_alike begun _ _ _ c.args.byte _ _ _ _ whole holds c.without_return.ensures c.if-byte-ne10.false c.in_err-answer_line.ensures

pub returns : goal.returns
returns g c begun whole holds =
    feed_passed g.D.LineDesk.tells g.met.D.LineDesk.long_alike begun _ _ _ c.args.byte _ _ _ _ whole holds c.without_return.ensures c.if-byte-ne10.false c.clear.ensures c.in_ok-answer_line.ensures
