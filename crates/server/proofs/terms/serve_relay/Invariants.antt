use Rattle.server.specs.Served.{opening_of}
use Rattle.server.specs.Relays.{LedTo}
use Rattle.server.proofs.terms.serve_relay.Given as goal

abbrev pub invariant-loop : goal.invariant-loop
invariant-loop g l =
    (goal.iterator-loop g).can_next l.iterator' × (goal.iterator-loop g).is_finite l.iterator'
    × LedTo (opening_of l.fn.subjects l.fn.begins) (opening_of l.subjects l.next.begins) l.next.account
