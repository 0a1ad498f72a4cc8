use Rattle.std.proofs.Common.{◌<◌, arith, length, nat_eq, refl, sym, ap, ◌∙◌}
use Rattle.std.proofs.lemmas.Option.{slice_get_read}
use Rattle.std.specs.Cmp.Lexicographic.{pointwise}
use Rattle.features.specs.declared.actors.Subject.{Subject}
use Rattle.hall_sessions.proofs.attended.seat_named.Goals as goal

pub returns-then-eq : goal.returns-then-eq
returns-then-eq g c =
    let named = sym (ap (λ (s : Subject). pointwise nat_eq s.name c.args.name) c.subject.ensures) ∙ sym c.eq.ensures ∙ c.if-eq.true in
    let within : c.loop-place.place < length c.args.seats.now = omega (arith, c.in-Some.ensures.lookup.3.0) in
    let found = slice_get_read c.args.seats.now _ c.loop-place.place c.in-Some.seat.now refl within c.in-Some.ensures.lookup.1 in
    record { seat = c.in-Some.seat.now; found = found; named = named }
