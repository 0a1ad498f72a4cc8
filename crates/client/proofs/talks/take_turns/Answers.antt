use Rattle.std.proofs.Common.{arith}
use Rattle.line_streams.proofs.LeavingLemmas.{left_by}
use Rattle.client.specs.Held.{held}
use Rattle.client.specs.Steps.{TakesTurns}
use Rattle.client.specs.Turns.{sight}
use Rattle.client.proofs.TalkLemmas.{ends_by_then, ends_well_then, first_spoken, next_spoken, too_many}
use Rattle.client.proofs.talks.take_turns.Goals as goal

pub loop-init : goal.loop-init
loop-init g c = first_spoken (sight (held c.args.asked.now) (held c.args.told.now) (g.I.Read.remaining c.args.input.now) (g.P.Read.remaining c.args.peer_in.now) (g.Q.Write.contents c.args.peer_out.now) (g.W.Write.contents c.args.output.now))

pub returns-in_err-take_turn : goal.returns-in_err-take_turn
returns-in_err-take_turn g c =
    left_by c.from_residual.result _
    (λ r. TakesTurns r
    (sight (held c.args.asked.now) (held c.args.told.now) (g.I.Read.remaining c.args.input.now) (g.P.Read.remaining c.args.peer_in.now) (g.Q.Write.contents c.args.peer_out.now) (g.W.Write.contents c.args.output.now))
    (sight (held c.take_turn.new.asked) (held c.take_turn.new.told) (g.I.Read.remaining c.take_turn.new.input) (g.P.Read.remaining c.take_turn.new.peer_in) (g.Q.Write.contents c.take_turn.new.peer_out) (g.W.Write.contents c.take_turn.new.output)))
    c.from_residual.ensures.1
    (ends_by_then (sight (held c.args.asked.now) (held c.args.told.now) (g.I.Read.remaining c.args.input.now) (g.P.Read.remaining c.args.peer_in.now) (g.Q.Write.contents c.args.peer_out.now) (g.W.Write.contents c.args.output.now))
    (sight (held c.loop.asked) (held c.loop.told) (g.I.Read.remaining c.loop.input) (g.P.Read.remaining c.loop.peer_in) (g.Q.Write.contents c.loop.peer_out) (g.W.Write.contents c.loop.output))
    (sight (held c.take_turn.new.asked) (held c.take_turn.new.told) (g.I.Read.remaining c.take_turn.new.input) (g.P.Read.remaining c.take_turn.new.peer_in) (g.Q.Write.contents c.take_turn.new.peer_out) (g.W.Write.contents c.take_turn.new.output))
    c.loop.invariant.0 _ c.in_err-take_turn.ensures)

pub returns-in-Closed : goal.returns-in-Closed
returns-in-Closed g c =
    ends_well_then (sight (held c.args.asked.now) (held c.args.told.now) (g.I.Read.remaining c.args.input.now) (g.P.Read.remaining c.args.peer_in.now) (g.Q.Write.contents c.args.peer_out.now) (g.W.Write.contents c.args.output.now))
    (sight (held c.loop.asked) (held c.loop.told) (g.I.Read.remaining c.loop.input) (g.P.Read.remaining c.loop.peer_in) (g.Q.Write.contents c.loop.peer_out) (g.W.Write.contents c.loop.output))
    (sight (held c.take_turn.new.asked) (held c.take_turn.new.told) (g.I.Read.remaining c.take_turn.new.input) (g.P.Read.remaining c.take_turn.new.peer_in) (g.Q.Write.contents c.take_turn.new.peer_out) (g.W.Write.contents c.take_turn.new.output))
    c.loop.invariant.0 c.in-Closed.end (rw c.in-Closed.is at c.in_ok-take_turn.ensures)

pub loop-preserved : goal.loop-preserved
loop-preserved g c =
    next_spoken c.loop.counter _ _ _ c.loop.invariant (rw c.in-Next.is at c.in_ok-take_turn.ensures)

pub returns : goal.returns
returns g c = too_many _ (sight (held c.loop.asked) (held c.loop.told) (g.I.Read.remaining c.loop.input) (g.P.Read.remaining c.loop.peer_in) (g.Q.Write.contents c.loop.peer_out) (g.W.Write.contents c.loop.output)) (sight (held c.loop.asked) (held c.loop.told) (g.I.Read.remaining c.loop.input) (g.P.Read.remaining c.loop.peer_in) (g.Q.Write.contents c.loop.peer_out) (g.W.Write.contents c.loop.output)) c.loop.invariant.0 (omega (arith, c.loop.invariant.1, c.loop-test.false))
