use Rattle.std.proofs.Common.{◌≡◌, List, map, sym, subst}
use Rattle.std.specs.Arc.{arc_value}
use Rattle.std.specs.Prelude.{IfOk}
use Rattle.plane.specs.declared.point.Point.{Point}
use Rattle.chronicle.specs.Chronicles.{ChronicleData, seen}
use Rattle.chronicle.specs.Noting.{IsAnswered}
use Rattle.chronicle.proofs.NotingLemmas.{held_answered, search_answered}
use Rattle.chronicle.proofs.chronicles.Chronicle.finish.Goals as goal

pub invariant_of-self : goal.invariant_of-self
invariant_of-self g c =
    held_answered c.args.seat c.args.number c.self.inside.world.plain c.finish-finished.new.self.plain c.finish-finished.result
    c.self.inside.opened.value.plain.base (map arc_value c.self.inside.rolled.items) c.self.inside.changed c.finish-finished.ensures.happens c.self.invariant

pub returns-then-eq-clause-ok : goal.returns-then-eq-clause-ok
returns-then-eq-clause-ok g c =
    let rolled = map arc_value c.self.inside.rolled.items in
    let old = c.self.inside.world.plain in
    let new = c.finish-finished.new.self.plain in
    let search = c.in_ok-search.search in
    let same : search.window ≡ c.args.window.now = c.eq.ensures.exact.0 c.if-eq.true in
    subst (λ (d : ChronicleData). IfOk c.finish-finished.result (λ answer. IsAnswered c.args.seat c.args.window.now answer d (seen c.self.inside.opened.value.plain.base rolled new))) c.self.view_is
    (subst (λ (w : List Point). IfOk c.finish-finished.result (λ answer. IsAnswered c.args.seat w answer (seen c.self.inside.opened.value.plain.base rolled old) (seen c.self.inside.opened.value.plain.base rolled new))) same
    (search_answered c.self.inside.opened.value.plain.base rolled c.args.seat c.args.number search old new c.finish-finished.result (sym c.in_ok-search.ensures) c.finish-finished.ensures.happens))
