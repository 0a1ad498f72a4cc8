use Rattle.std.proofs.Common.{◌≡◌, ℕ, Bool, true, Ok, IsTrue, List, refl, sym, ap, subst, ◌∙◌}
use Rattle.plane.specs.declared.point.Point.{Point}
use Rattle.tree_answers.specs.declared.answers.Tending.TheVariants.{Idle}
use Rattle.world.specs.Kept.{TendsBy, is_noted}
use Rattle.world.specs.Stepping.{KeepsPair}
use Rattle.world.proofs.KeptSlotLemmas.{idle_answer, kept_noted, kept_tended, tends_by_all, tends_when}
use Rattle.world.proofs.kept_slots.KeptSlots.tend.Goals as goal

pub returns-then-has-clause-tends : goal.returns-then-has-clause-tends
returns-then-has-clause-tends g c =
    let made = c.tend.ensures in
    let tends : TendsBy (λ pair. IsTrue true) c.args.slot c.args.index.now c.tend.new.self c.tend.result = record { tended = made.tended; contents = made.contents; first = made.first; step = made.step; refused = made.err; nobody = made.nobody; untouched = made.untouched } in
    tends_by_all c.args.world.now c.args.slot c.args.index.now c.tend.new.self (λ pair. IsTrue true) (λ pair. refl)
    (λ at is. c.requires at (subst (λ (n : ℕ). is_noted c.args.self.now n ≡ true) (sym is) (sym c.has.ensures ∙ c.if-has.true))) c.tend.result tends

pub returns-then-has-clause-kept : goal.returns-then-has-clause-kept
returns-then-has-clause-kept g c =
    let made = c.tend.ensures in
    let tends : TendsBy (λ pair. IsTrue true) c.args.slot c.args.index.now c.tend.new.self c.tend.result = record { tended = made.tended; contents = made.contents; first = made.first; step = made.step; refused = made.err; nobody = made.nobody; untouched = made.untouched } in
    kept_tended (λ pair. IsTrue true) c.args.slot c.args.index.now c.tend.new.self c.args.world.now c.args.self.now c.tend.result tends c.requires

pub returns-clause-kept : goal.returns-clause-kept
returns-clause-kept g c =
    let made = c.tend-tended.ensures in
    let w = c.args.world.now in
    let tends : TendsBy (KeepsPair w) c.args.slot c.args.index.now c.tend-tended.new.self c.tend-tended.result = record { tended = made.tended; contents = made.contents; first = made.first; step = made.step; refused = made.err; nobody = made.nobody; untouched = made.untouched } in
    let idle : c.tend-tended.result ≡ Ok Idle = idle_answer c.tend-tended.result (sym c.is_idle.ensures ∙ c.if-not-is_idle.false) in
    kept_noted w c.args.slot c.args.index.now c.tend-tended.new.self (tends_when idle tends) c.args.self.now c.note.new.self c.note.ensures (kept_tended (KeepsPair w) c.args.slot c.args.index.now c.tend-tended.new.self w c.args.self.now c.tend-tended.result tends c.requires)

pub returns-then-not-is_idle : goal.returns-then-not-is_idle
returns-then-not-is_idle g c =
    let made = c.tend-tended.ensures in
    let w = c.args.world.now in
    let tends : TendsBy (KeepsPair w) c.args.slot c.args.index.now c.tend-tended.new.self c.tend-tended.result = record { tended = made.tended; contents = made.contents; first = made.first; step = made.step; refused = made.err; nobody = made.nobody; untouched = made.untouched } in
    record { tends = tends; kept = kept_tended (KeepsPair w) c.args.slot c.args.index.now c.tend-tended.new.self w c.args.self.now c.tend-tended.result tends c.requires; spent = made.spent }
