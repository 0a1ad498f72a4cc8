use Rattle.std.proofs.Common.{sym, true≢false, ◌∙◌}
use Rattle.line_streams.proofs.LeavingLemmas.{left_by}
use Rattle.client.specs.Held.{held}
use Rattle.client.specs.Steps.{TakesTurn}
use Rattle.client.specs.Turns.{sight}
use Rattle.client.proofs.TurnLemmas.{asks_last, asks_line, farewell_said, last_answered, line_answered, not_answered, not_sent, nothing_sent}
use Rattle.client.proofs.talks.take_turn.Goals as goal

pub returns-in_err-send_line : goal.returns-in_err-send_line
returns-in_err-send_line g c =
    left_by c.from_residual.result _
    (λ r. TakesTurn r
    (sight (held c.args.asked.now) (held c.args.told.now) (g.I.Read.remaining c.args.input.now) (g.P.Read.remaining c.args.peer_in.now) (g.Q.Write.contents c.args.peer_out.now) (g.W.Write.contents c.args.output.now))
    (sight (held c.send_line.new.asked) (held c.args.told.now) (g.I.Read.remaining c.send_line.new.input) (g.P.Read.remaining c.args.peer_in.now) (g.Q.Write.contents c.send_line.new.peer) (g.W.Write.contents c.args.output.now)))
    c.from_residual.ensures.1 (not_sent _ _ _ _ _ _ _ _ _ _ c.in_err-send_line.ensures)

pub returns-in-Nothing : goal.returns-in-Nothing
returns-in-Nothing g c = nothing_sent _ _ _ _ _ _ _ _ _ (rw c.in-Nothing.is at c.in_ok-send_line.ensures)

pub returns-in_err-pass_reply-in-Line : goal.returns-in_err-pass_reply-in-Line
returns-in_err-pass_reply-in-Line g c =
    let sent = rw c.in-Line.is at c.in_ok-send_line.ensures in
    left_by c.from_residual-in_err-pass_reply-in-Line.result _
    (λ r. TakesTurn r
    (sight (held c.args.asked.now) (held c.args.told.now) (g.I.Read.remaining c.args.input.now) (g.P.Read.remaining c.args.peer_in.now) (g.Q.Write.contents c.args.peer_out.now) (g.W.Write.contents c.args.output.now))
    (sight (held c.send_line.new.asked) (held c.pass_reply.new.told) (g.I.Read.remaining c.send_line.new.input) (g.P.Read.remaining c.pass_reply.new.peer) (g.Q.Write.contents c.send_line.new.peer) (g.W.Write.contents c.pass_reply.new.output)))
    c.from_residual-in_err-pass_reply-in-Line.ensures.1
    (not_answered sent.0 (held c.args.asked.now) (held c.send_line.new.asked) (held c.args.told.now) (held c.pass_reply.new.told) (g.I.Read.remaining c.args.input.now) (g.I.Read.remaining c.send_line.new.input) (g.P.Read.remaining c.args.peer_in.now) (g.P.Read.remaining c.pass_reply.new.peer) (g.Q.Write.contents c.args.peer_out.now) (g.Q.Write.contents c.send_line.new.peer) (g.W.Write.contents c.args.output.now) (g.W.Write.contents c.pass_reply.new.output) sent.1 (asks_line sent.0 (held c.args.asked.now) (held c.send_line.new.asked) (held c.args.told.now) (held c.pass_reply.new.told) (g.I.Read.remaining c.args.input.now) (g.I.Read.remaining c.send_line.new.input) (g.P.Read.remaining c.args.peer_in.now) (g.P.Read.remaining c.pass_reply.new.peer) (g.Q.Write.contents c.args.peer_out.now) (g.Q.Write.contents c.send_line.new.peer) (g.W.Write.contents c.args.output.now) (g.W.Write.contents c.pass_reply.new.output) sent.2) sent.3 _ c.in_err-pass_reply-in-Line.ensures)

pub returns-in-true : goal.returns-in-true
returns-in-true g c =
    let sent = rw c.in-Line.is at c.in_ok-send_line.ensures in
    let told = c.in_ok-pass_reply-in-Line.ensures in
    farewell_said sent.0 (held c.args.asked.now) (held c.send_line.new.asked) (held c.args.told.now) (held c.pass_reply.new.told) (g.I.Read.remaining c.args.input.now) (g.I.Read.remaining c.send_line.new.input) (g.P.Read.remaining c.args.peer_in.now) (g.P.Read.remaining c.pass_reply.new.peer) (g.Q.Write.contents c.args.peer_out.now) (g.Q.Write.contents c.send_line.new.peer) (g.W.Write.contents c.args.output.now) (g.W.Write.contents c.pass_reply.new.output) sent.1 (asks_line sent.0 (held c.args.asked.now) (held c.send_line.new.asked) (held c.args.told.now) (held c.pass_reply.new.told) (g.I.Read.remaining c.args.input.now) (g.I.Read.remaining c.send_line.new.input) (g.P.Read.remaining c.args.peer_in.now) (g.P.Read.remaining c.pass_reply.new.peer) (g.Q.Write.contents c.args.peer_out.now) (g.Q.Write.contents c.send_line.new.peer) (g.W.Write.contents c.args.output.now) (g.W.Write.contents c.pass_reply.new.output) sent.2) sent.3 told.0 told.1 told.3 told.4 (told.2.0 c.in-true.is)

pub returns-in-false : goal.returns-in-false
returns-in-false g c =
    let sent = rw c.in-Line.is at c.in_ok-send_line.ensures in
    let told = c.in_ok-pass_reply-in-Line.ensures in
    line_answered sent.0 (held c.args.asked.now) (held c.send_line.new.asked) (held c.args.told.now) (held c.pass_reply.new.told) (g.I.Read.remaining c.args.input.now) (g.I.Read.remaining c.send_line.new.input) (g.P.Read.remaining c.args.peer_in.now) (g.P.Read.remaining c.pass_reply.new.peer) (g.Q.Write.contents c.args.peer_out.now) (g.Q.Write.contents c.send_line.new.peer) (g.W.Write.contents c.args.output.now) (g.W.Write.contents c.pass_reply.new.output) sent.1 sent.2 sent.3 told.0 told.1 (λ e. true≢false (sym (told.2.1 e) ∙ c.in-false.is)) told.3 told.4

pub returns-in_err-pass_reply-in-Last : goal.returns-in_err-pass_reply-in-Last
returns-in_err-pass_reply-in-Last g c =
    let sent = rw c.in-Last.is at c.in_ok-send_line.ensures in
    left_by c.from_residual-in_err-pass_reply-in-Last.result _
    (λ r. TakesTurn r
    (sight (held c.args.asked.now) (held c.args.told.now) (g.I.Read.remaining c.args.input.now) (g.P.Read.remaining c.args.peer_in.now) (g.Q.Write.contents c.args.peer_out.now) (g.W.Write.contents c.args.output.now))
    (sight (held c.send_line.new.asked) (held c.pass_reply-in-Last.new.told) (g.I.Read.remaining c.send_line.new.input) (g.P.Read.remaining c.pass_reply-in-Last.new.peer) (g.Q.Write.contents c.send_line.new.peer) (g.W.Write.contents c.pass_reply-in-Last.new.output)))
    c.from_residual-in_err-pass_reply-in-Last.ensures.1
    (not_answered sent.0 (held c.args.asked.now) (held c.send_line.new.asked) (held c.args.told.now) (held c.pass_reply-in-Last.new.told) (g.I.Read.remaining c.args.input.now) (g.I.Read.remaining c.send_line.new.input) (g.P.Read.remaining c.args.peer_in.now) (g.P.Read.remaining c.pass_reply-in-Last.new.peer) (g.Q.Write.contents c.args.peer_out.now) (g.Q.Write.contents c.send_line.new.peer) (g.W.Write.contents c.args.output.now) (g.W.Write.contents c.pass_reply-in-Last.new.output) sent.1 (asks_last sent.0 (held c.args.asked.now) (held c.send_line.new.asked) (held c.args.told.now) (held c.pass_reply-in-Last.new.told) (g.I.Read.remaining c.args.input.now) (g.I.Read.remaining c.send_line.new.input) (g.P.Read.remaining c.args.peer_in.now) (g.P.Read.remaining c.pass_reply-in-Last.new.peer) (g.Q.Write.contents c.args.peer_out.now) (g.Q.Write.contents c.send_line.new.peer) (g.W.Write.contents c.args.output.now) (g.W.Write.contents c.pass_reply-in-Last.new.output) sent.2) sent.3 _ c.in_err-pass_reply-in-Last.ensures)

pub returns-in-true-2 : goal.returns-in-true-2
returns-in-true-2 g c =
    let sent = rw c.in-Last.is at c.in_ok-send_line.ensures in
    let told = c.in_ok-pass_reply-in-Last.ensures in
    farewell_said sent.0 (held c.args.asked.now) (held c.send_line.new.asked) (held c.args.told.now) (held c.pass_reply-in-Last.new.told) (g.I.Read.remaining c.args.input.now) (g.I.Read.remaining c.send_line.new.input) (g.P.Read.remaining c.args.peer_in.now) (g.P.Read.remaining c.pass_reply-in-Last.new.peer) (g.Q.Write.contents c.args.peer_out.now) (g.Q.Write.contents c.send_line.new.peer) (g.W.Write.contents c.args.output.now) (g.W.Write.contents c.pass_reply-in-Last.new.output) sent.1 (asks_last sent.0 (held c.args.asked.now) (held c.send_line.new.asked) (held c.args.told.now) (held c.pass_reply-in-Last.new.told) (g.I.Read.remaining c.args.input.now) (g.I.Read.remaining c.send_line.new.input) (g.P.Read.remaining c.args.peer_in.now) (g.P.Read.remaining c.pass_reply-in-Last.new.peer) (g.Q.Write.contents c.args.peer_out.now) (g.Q.Write.contents c.send_line.new.peer) (g.W.Write.contents c.args.output.now) (g.W.Write.contents c.pass_reply-in-Last.new.output) sent.2) sent.3 told.0 told.1 told.3 told.4 (told.2.0 c.in-true-2.is)

pub returns-in-false-2 : goal.returns-in-false-2
returns-in-false-2 g c =
    let sent = rw c.in-Last.is at c.in_ok-send_line.ensures in
    let told = c.in_ok-pass_reply-in-Last.ensures in
    last_answered sent.0 (held c.args.asked.now) (held c.send_line.new.asked) (held c.args.told.now) (held c.pass_reply-in-Last.new.told) (g.I.Read.remaining c.args.input.now) (g.I.Read.remaining c.send_line.new.input) (g.P.Read.remaining c.args.peer_in.now) (g.P.Read.remaining c.pass_reply-in-Last.new.peer) (g.Q.Write.contents c.args.peer_out.now) (g.Q.Write.contents c.send_line.new.peer) (g.W.Write.contents c.args.output.now) (g.W.Write.contents c.pass_reply-in-Last.new.output) sent.1 (asks_last sent.0 (held c.args.asked.now) (held c.send_line.new.asked) (held c.args.told.now) (held c.pass_reply-in-Last.new.told) (g.I.Read.remaining c.args.input.now) (g.I.Read.remaining c.send_line.new.input) (g.P.Read.remaining c.args.peer_in.now) (g.P.Read.remaining c.pass_reply-in-Last.new.peer) (g.Q.Write.contents c.args.peer_out.now) (g.Q.Write.contents c.send_line.new.peer) (g.W.Write.contents c.args.output.now) (g.W.Write.contents c.pass_reply-in-Last.new.output) sent.2) sent.3 told.0 told.1 told.3 told.4 (λ e. true≢false (sym (told.2.1 e) ∙ c.in-false-2.is)) sent.2.3 sent.2.2
