use Rattle.std.proofs.Common.{◌≡◌, List, ◌++◌, map, subst, sym, ap, ◌∙◌}
use Rattle.std.specs.Arc.{arc_value}
use Rattle.audit_trail.specs.Records.{RecordData}
use Rattle.chronicle.specs.Chronicles.{IsHeld, seen}
use Rattle.chronicle.proofs.NotingLemmas.{roll_held, roll_kept}
use Rattle.chronicle.proofs.chronicles.Chronicle.roll.Goals as goal

pub invariant_of-self-in-Ok : goal.invariant_of-self-in-Ok
invariant_of-self-in-Ok g c =
    let base = c.self.inside.opened.value.plain.base in
    let old = c.self.inside.world.plain in
    let before = map arc_value c.self.inside.rolled.items in
    let piece = arc_value c.in-Ok.piece in
    let sound = c.fact_sound.ensures.sound in
    let happens = c.in-Ok.ensures.happens in
    let held : c.trail.result.now.records ≡ piece.records = c.trail.ensures.records ∙ sym (roll_held c.args.seat old c.roll.new.self.plain piece sound happens) in
    let more = c.in_default.ensures.ok ∙ ap (λ (records : List RecordData). before ++ records) held in
    subst (λ (rolled : List RecordData). IsHeld base rolled c.self.inside.changed c.roll.new.self.plain) (sym more)
    (roll_kept c.args.seat old c.roll.new.self.plain piece base before c.self.inside.changed sound happens c.self.invariant).1

pub returns-in-Ok : goal.returns-in-Ok
returns-in-Ok g c =
    let base = c.self.inside.opened.value.plain.base in
    let old = c.self.inside.world.plain in
    let before = map arc_value c.self.inside.rolled.items in
    let piece = arc_value c.in-Ok.piece in
    let sound = c.fact_sound.ensures.sound in
    let happens = c.in-Ok.ensures.happens in
    let held : c.trail.result.now.records ≡ piece.records = c.trail.ensures.records ∙ sym (roll_held c.args.seat old c.roll.new.self.plain piece sound happens) in
    let more = c.in_default.ensures.ok ∙ ap (λ (records : List RecordData). before ++ records) held in
    ap (λ (rolled : List RecordData). seen base rolled c.roll.new.self.plain) more
    ∙ (roll_kept c.args.seat old c.roll.new.self.plain piece base before c.self.inside.changed sound happens c.self.invariant).0 ∙ c.self.view_is
