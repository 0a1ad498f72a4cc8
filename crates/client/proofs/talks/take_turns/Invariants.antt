use Rattle.std.proofs.Common.{length, ◌≡◌}
use Rattle.client.specs.Held.{held}
use Rattle.client.specs.Turns.{Spoken, sight}
use Rattle.client.proofs.talks.take_turns.Given as goal

abbrev pub invariant-loop : goal.invariant-loop
invariant-loop g l =
    (spoken : Spoken (sight (held l.fn.asked) (held l.fn.told) (g.I.Read.remaining l.fn.input) (g.P.Read.remaining l.fn.peer_in) (g.Q.Write.contents l.fn.peer_out) (g.W.Write.contents l.fn.output))
    (sight (held l.asked) (held l.told) (g.I.Read.remaining l.input) (g.P.Read.remaining l.peer_in) (g.Q.Write.contents l.peer_out) (g.W.Write.contents l.output))) × (length spoken.lines ≡ l.counter)
