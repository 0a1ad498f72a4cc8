use Rattle.std.proofs.Common.{arith}
use Rattle.line_streams.proofs.LeavingLemmas.{left_by}
use Rattle.client.specs.Held.{held}
use Rattle.client.specs.Steps.{PassesReply}
use Rattle.client.proofs.PassLemmas.{first_passed, none_passed, reply_passed, row_passed, rows_broken}
use Rattle.client.proofs.talks.pass_reply.Goals as goal

pub returns-in_err-head : goal.returns-in_err-head
returns-in_err-head g c =
    left_by c.from_residual.result _
    (λ r. PassesReply r (held c.args.told.now) (held c.pass_line.new.told) (g.P.Read.remaining c.args.peer.now) (g.P.Read.remaining c.pass_line.new.peer) (g.W.Write.contents c.args.output.now) (g.W.Write.contents c.pass_line.new.output))
    c.from_residual.ensures.1 (none_passed _ _ _ _ _ _ _ c.in_err-head.ensures)

pub loop-init : goal.loop-init
loop-init g c = first_passed c.in_ok-head.head _ _ _ _ _ _ c.in_ok-head.ensures

pub returns-in_err-pass_line : goal.returns-in_err-pass_line
returns-in_err-pass_line g c =
    left_by c.from_residual-in_err-pass_line.result _
    (λ r. PassesReply r (held c.args.told.now) (held c.pass_line-in-loop.new.told) (g.P.Read.remaining c.args.peer.now) (g.P.Read.remaining c.pass_line-in-loop.new.peer) (g.W.Write.contents c.args.output.now) (g.W.Write.contents c.pass_line-in-loop.new.output))
    c.from_residual-in_err-pass_line.ensures.1 (rows_broken _ c.in_ok-head.head c.loop.counter _ _ _ _ _ _ _ _ _ c.loop-test.true c.loop.invariant c.in_err-pass_line.ensures)

pub loop-preserved : goal.loop-preserved
loop-preserved g c = row_passed c.in_ok-head.head c.in_ok-pass_line.field-0 c.loop.counter _ _ _ _ _ _ _ _ _ c.loop.invariant c.in_ok-pass_line.ensures

pub returns : goal.returns
returns g c = reply_passed c.in_ok-head.head c.loop.counter _ _ _ _ _ _ _ c.loop.invariant (omega (arith, c.loop.auto.counter-end, c.loop-test.false)) c.flush.ensures
