use Rattle.std.proofs.Common.{ap, arith, sym, ◌∙◌}
use Rattle.answer_tray.specs.Trays.{TrayData, told_in}
use Rattle.answer_tray.proofs.TrayLemmas.{grown_empty, last_grown}
use Rattle.answer_tray.proofs.trays.Tray.note.Goals as goal

pub invariant_of-self : goal.invariant_of-self
invariant_of-self g c =
    let empty = ap (λ (t : TrayData). t.answers) c.self.view_is ∙ c.requires.empty in
    let made = grown_empty _ _ c.args.chronicle.now _ (c.again.ensures ∙ c.grow.ensures) empty in
    let before = c.self.invariant.2 ∙ ap told_in c.self.view_is in (
      made.0,
      omega (arith, c.add.ensures.total, c.self.invariant.1, before, c.requires.told, c.len-self-inside.ensures),
      c.len-self-inside.ensures ∙ sym made.1,
    )

pub returns-clause-seen : goal.returns-clause-seen
returns-clause-seen g c = last_grown _ _ c.args.chronicle.now c.grow.ensures
