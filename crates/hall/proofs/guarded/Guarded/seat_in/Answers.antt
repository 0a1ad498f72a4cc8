use Rattle.std.proofs.Common.{◌≡◌, Ok, Some, ap, subst, sym, ◌∙◌}
use Rattle.features.specs.Subjects.{subject_named}
use Rattle.chronicle.specs.Chronicles.{ChronicleData, Opening, subject_given}
use Rattle.hall.proofs.Level.{as_many}
use Rattle.hall.proofs.Seating.{last_found, last_subject}
use Rattle.hall.proofs.guarded.Guarded.seat_in.Goals as goal

pub returns-clause-named : goal.returns-clause-named
returns-clause-named g c =
    let old = c.args.self.now in
    let sat = c.in_ok-number.ensures.ok in
    let number = c.in_ok-number.number in
    let subject = c.in-Ok.subject in
    let found = subst (λ (d : ChronicleData). subject_given number d.seats ≡ Ok subject) sat.given (sym c.in-Ok.ensures) in
    let named : subject_named c.args.name old.chronicle.opening.subjects ≡ Some subject = sat.named ∙ ap Some (last_subject old.chronicle.seats sat.subject subject number sat.next found) in
    subst (λ (o : Opening). subject_named c.args.name o.subjects ≡ Some subject) old.opened named

pub unreachable-requires : goal.unreachable-requires
unreachable-requires g c =
    let sat = c.in_ok-number.ensures.ok in
    let number = c.in_ok-number.number in
    c.in_default.not-Ok sat.subject (c.subject_at.ensures ∙ ap (λ (d : ChronicleData). subject_given number d.seats) sat.given
    ∙ last_found c.args.self.now.chronicle.seats sat.subject number sat.next)

pub go_on-requires-clause-told : goal.go_on-requires-clause-told
go_on-requires-clause-told g c =
    let old = c.args.self.now in
    as_many c.args.lobby.now.tray old.seen old.chronicle _ c.requires.level old.present (ap (λ (d : ChronicleData). d.records) c.in_ok-number.ensures.ok.given)
