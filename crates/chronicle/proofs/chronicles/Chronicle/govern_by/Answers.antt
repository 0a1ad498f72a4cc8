use Rattle.std.proofs.Common.{ℕ, List, length, map, subst, sym, ap, ◌∙◌, ◌+◌, ◌++◌, arith}
use Rattle.std.specs.Arc.{arc_value}
use Rattle.std.specs.Prelude.{IfOk, OnErr, ◌≡◌}
use Rattle.audit_trail.specs.Records.{RecordData}
use Rattle.chronicle.specs.Chronicles.{ChronicleData, IsHeld, seen}
use Rattle.chronicle.specs.Noting.{IsGovernedBy}
use Rattle.chronicle.proofs.NotingLemmas.{held_governed, governed_next, govern_refused}
use Rattle.chronicle.proofs.chronicles.Chronicle.govern_by.Goals as goal

pub invariant_of-self : goal.invariant_of-self
invariant_of-self g c =
    let base = c.self.inside.opened.value.plain.base in
    let rolled = map arc_value c.self.inside.rolled.items in
    let new = c.govern_by-governed.new.self.plain in
    let all : c.count-now.result ≡ length (rolled ++ new.trail) =
    c.count-now.ensures ∙ ap (λ xs. length (map arc_value xs ++ c.trail.result.now.records)) c.deref.ensures.value
    ∙ ap (λ (rs : List RecordData). length (rolled ++ rs)) c.trail.ensures.records in
    let held = held_governed c.args.seat (arc_value c.args.decider).document c.self.inside.world.plain new c.govern_by-governed.result base rolled c.self.inside.changed c.count-now.result
    c.govern_by-governed.ensures.happens all c.self.invariant in
    subst (λ (n : ℕ). IsHeld base rolled n new) (sym c.changed_by_policy-self-inside.ensures) held

pub returns-clause-ok : goal.returns-clause-ok
returns-clause-ok g c =
    let rolled = map arc_value c.self.inside.rolled.items in
    let old = c.self.inside.world.plain in
    let edition : old.state.decider.edition ≡ c.args.self.now.state.decider.edition = ap (λ (d : ChronicleData). d.state.decider.edition) c.self.view_is in
    let next = c.requires (omega (arith, edition, c.in_ok-next_edition.ensures.left)) ∙ sym (ap (λ n. n + 1) edition) in
    subst (λ (d : ChronicleData). IfOk c.govern_by-governed.result (λ edition. IsGovernedBy c.args.seat (arc_value c.args.decider) edition d (seen c.self.inside.opened.value.plain.base rolled c.govern_by-governed.new.self.plain)))
    c.self.view_is
    (governed_next c.self.inside.opened.value.plain.base rolled c.args.seat (arc_value c.args.decider) old c.govern_by-governed.new.self.plain c.govern_by-governed.result c.govern_by-governed.ensures.happens next)

pub returns-clause-err : goal.returns-clause-err
returns-clause-err g c =
    let rolled = map arc_value c.self.inside.rolled.items in
    subst (λ (d : ChronicleData). OnErr c.govern_by-governed.result (seen c.self.inside.opened.value.plain.base rolled c.govern_by-governed.new.self.plain ≡ d)) c.self.view_is
    (govern_refused c.self.inside.opened.value.plain.base rolled c.args.seat (arc_value c.args.decider).document c.self.inside.world.plain c.govern_by-governed.new.self.plain c.govern_by-governed.result c.govern_by-governed.ensures.happens)
