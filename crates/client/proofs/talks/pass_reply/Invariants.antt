use Rattle.client.specs.Held.{held}
use Rattle.client.proofs.PassLemmas.{InReply}
use Rattle.client.proofs.talks.pass_reply.Given as goal

abbrev pub invariant-loop : goal.invariant-loop
invariant-loop g l = InReply l.head l.counter (held l.fn.told) (held l.told) (g.P.Read.remaining l.fn.peer) (g.P.Read.remaining l.peer) (g.W.Write.contents l.fn.output) (g.W.Write.contents l.output)
