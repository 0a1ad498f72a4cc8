use Rattle.std.proofs.Common.{map, subst}
use Rattle.std.specs.Arc.{arc_value}
use Rattle.std.specs.Prelude.{IfOk, OnErr, ◌≡◌}
use Rattle.plain_world.specs.Events.{TakeSeat, Number, reply_of}
use Rattle.plain_world.proofs.RecordLemmas.{adds_alone}
use Rattle.chronicle.specs.Chronicles.{ChronicleData, seen}
use Rattle.chronicle.specs.Noting.{IsSeatGiven}
use Rattle.chronicle.proofs.EventLemmas.{held_on}
use Rattle.chronicle.proofs.NotingLemmas.{seat_given, seat_refused}
use Rattle.chronicle.proofs.chronicles.Chronicle.seat.Goals as goal

pub invariant_of-self : goal.invariant_of-self
invariant_of-self g c =
    let event = TakeSeat c.args.name in
    let old = c.self.inside.world.plain in
    let new = c.seat.new.self.plain in
    let reply = reply_of Number c.seat.result in
    let happens = c.seat.ensures.happens in
    held_on event old new reply c.self.inside.opened.value.plain.base (map arc_value c.self.inside.rolled.items) c.self.inside.changed happens
    (adds_alone event old new reply happens) c.self.invariant

pub returns-clause-ok : goal.returns-clause-ok
returns-clause-ok g c =
    let rolled = map arc_value c.self.inside.rolled.items in
    subst (λ (d : ChronicleData). IfOk c.seat.result (λ number. IsSeatGiven c.args.name number d (seen c.self.inside.opened.value.plain.base rolled c.seat.new.self.plain))) c.self.view_is
    (seat_given c.self.inside.opened.value.plain.base rolled c.args.name c.self.inside.world.plain c.seat.new.self.plain c.seat.result c.seat.ensures.happens c.seat.ensures.few)

pub returns-clause-err : goal.returns-clause-err
returns-clause-err g c =
    let rolled = map arc_value c.self.inside.rolled.items in
    subst (λ (d : ChronicleData). OnErr c.seat.result (seen c.self.inside.opened.value.plain.base rolled c.seat.new.self.plain ≡ d)) c.self.view_is
    (seat_refused c.self.inside.opened.value.plain.base rolled c.args.name c.self.inside.world.plain c.seat.new.self.plain c.seat.result c.seat.ensures.happens)
