use Rattle.std.proofs.Common.{◌≡◌, ◌++◌, ℕ, List, length, map, sym, ap, subst, ◌∙◌}
use Rattle.std.specs.Arc.{arc_value}
use Rattle.std.specs.Prelude.{IfOk}
use Rattle.audit_trail.specs.Records.{RecordData}
use Rattle.plain_world.specs.Staging.{staged_in}
use Rattle.chronicle.specs.Chronicles.{ChronicleData, IsHeld, seen}
use Rattle.chronicle.specs.Noting.{IsEndedBy}
use Rattle.chronicle.proofs.NotingLemmas.{held_committed, list_ended}
use Rattle.chronicle.proofs.chronicles.Chronicle.commit.Goals as goal

pub invariant_of-self : goal.invariant_of-self
invariant_of-self g c =
    let base = c.self.inside.opened.value.plain.base in
    let rolled = map arc_value c.self.inside.rolled.items in
    let new = c.commit-committed.new.self.plain in
    let all : c.count-now.result ≡ length (rolled ++ new.trail) =
    c.count-now.ensures ∙ ap (λ xs. length (map arc_value xs ++ c.trail.result.now.records)) c.deref.ensures.value
    ∙ ap (λ (rs : List RecordData). length (rolled ++ rs)) c.trail.ensures.records in
    let held = held_committed c.args.seat c.args.number c.self.inside.world.plain new c.commit-committed.result base rolled c.self.inside.changed c.count-now.result
    c.commit-committed.ensures.happens all c.self.invariant in
    subst (λ (n : ℕ). IsHeld base rolled n new) (sym c.changed_by_list-self-inside.ensures) held

pub returns-then-same_changes-clause-ok : goal.returns-then-same_changes-clause-ok
returns-then-same_changes-clause-ok g c =
    let rolled = map arc_value c.self.inside.rolled.items in
    let old = c.self.inside.world.plain in
    let new = c.commit-committed.new.self.plain in
    let same : staged_in c.args.number old.transactions ≡ c.args.changes.now = sym c.staged.ensures.value ∙ c.same_changes.ensures.exact.0 c.if-same_changes.true in
    subst (λ (d : ChronicleData). IfOk c.commit-committed.result (λ outcome. IsEndedBy c.args.seat c.args.changes.now outcome d (seen c.self.inside.opened.value.plain.base rolled new))) c.self.view_is
    (list_ended c.self.inside.opened.value.plain.base rolled c.args.seat c.args.number c.args.changes.now old new c.commit-committed.result same c.commit-committed.ensures.happens)
