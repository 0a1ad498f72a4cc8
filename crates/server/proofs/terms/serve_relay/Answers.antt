use Rattle.server.specs.Served.{opening_of}
use Rattle.server.proofs.RelayLemmas.{relayed}
use Rattle.server.proofs.terms.serve_relay.Goals as goal

pub returns-then-is_empty : goal.returns-then-is_empty
returns-then-is_empty g c =
    let start = opening_of c.args.subjects c.args.begins in
    let next = c.in_ok-next.next in
    relayed start (opening_of c.args.subjects next.begins) next.account (c.in_ok-next.ensures start c.loop.invariant.2)
