use Rattle.std.proofs.Common.{None, ap, map, sym, take, ◌∙◌, ◌++◌, ◌∷◌, [], List}
use Rattle.std.specs.Arc.{arc_value}
use Rattle.std.specs.List.{last_or}
use Rattle.chronicle.specs.Chronicles.{ChronicleData}
use Rattle.answer_tray.specs.Trays.{TrayData, with_records}
use Rattle.answer_tray.proofs.TrayLemmas.{answers_of, grown_taken, last_grown, map_drop, taken_in}
use Rattle.answer_tray.proofs.trays.Tray.take_in.Goals as goal

pub invariant_of-self : goal.invariant_of-self
invariant_of-self g c =
    let items = c.self.inside.answers.items in
    let ends = ap (last_or None) c.meet.ensures ∙ c.requires in
    let legal = answers_of c.args.chronicle.now c.self.inside.seen _ ends c.self.invariant.0 in
    let left = ap (λ xs. map arc_value xs) c.drop_front.ensures ∙ map_drop arc_value _ items in
    let taken = c.taken_by-count.ensures.taken
    ∙ ap (λ xs. with_records c.args.chronicle.now (take c.taken_by-count.result.0 (map arc_value xs))) c.as_slice.ensures.value in
    let both = taken_in c.args.chronicle.now c.taken_by-count.new.chronicle _ _ _ taken left legal in
    let grown = c.again.ensures ∙ c.grow.ensures ∙ ap (λ (xs : List ChronicleData). xs ++ c.taken_by-count.new.chronicle ∷ []) (sym c.meet.ensures) in
    let made = grown_taken c.self.inside.seen _ c.args.chronicle.now c.taken_by-count.new.chronicle c.self.inside.told _ _ ends grown c.self.invariant.2 both in
    (made.0, c.self.invariant.1, made.1)

pub returns-clause-seen : goal.returns-clause-seen
returns-clause-seen g c = last_grown _ _ c.taken_by-count.new.chronicle c.grow.ensures

pub returns-clause-all : goal.returns-clause-all
returns-clause-all g c =
    let items = c.self.inside.answers.items in
    let ends = ap (last_or None) c.meet.ensures ∙ c.requires in
    let legal = answers_of c.args.chronicle.now c.self.inside.seen _ ends c.self.invariant.0 in
    let left = ap (λ xs. map arc_value xs) c.drop_front.ensures ∙ map_drop arc_value _ items in
    let taken = c.taken_by-count.ensures.taken
    ∙ ap (λ xs. with_records c.args.chronicle.now (take c.taken_by-count.result.0 (map arc_value xs))) c.as_slice.ensures.value in
    let both = taken_in c.args.chronicle.now c.taken_by-count.new.chronicle _ _ _ taken left legal in
    both.1 ∙ ap (λ (t : TrayData). c.args.chronicle.now.records ++ t.answers) c.self.view_is
