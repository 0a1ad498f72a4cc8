use Rattle.std.proofs.Common.{List, subst}
use Rattle.features.specs.declared.actors.Subject.{Subject}
use Rattle.server.specs.Relays.{IsTerm}
use Rattle.server.specs.Served.{opening_of}
use Rattle.server.proofs.RelayLemmas.{led_on_by}
use Rattle.server.proofs.terms.hold_next.Goals as goal

pub returns : goal.returns
returns g c =
    λ start led.
    let subjects = c.args.subjects.now in
    let begins = c.args.next.begins in
    let left = c.in_ok-term.term.left in
    let new = c.in_ok-new.new in
    let follows = c.in_ok-new.ensures in
    let term = subst (λ (s : List Subject). IsTerm (opening_of s begins) left.closed left.base) c.same_subjects-subjects.ensures c.in_ok-term.ensures.term in
    led_on_by start subjects begins new.begins c.args.next.account left.closed new.account left.base (follows.begins subjects) follows.records follows.seats term led
