use Rattle.std.proofs.Common.{ap, sym, ◌∙◌}
use Rattle.answer_tray.specs.Trays.{TrayData, told_in}
use Rattle.answer_tray.proofs.TrayLemmas.{grown_empty, last_grown}
use Rattle.answer_tray.proofs.trays.Tray.go_on.Goals as goal

pub invariant_of-self : goal.invariant_of-self
invariant_of-self g c =
    let empty = ap (λ (t : TrayData). t.answers) c.self.view_is ∙ c.requires.empty in
    let made = grown_empty _ _ c.args.chronicle.now _ (c.again.ensures ∙ c.grow.ensures) empty in
    let told = c.self.invariant.2 ∙ ap told_in c.self.view_is ∙ sym c.requires.told ∙ sym made.1 in
    (made.0, c.self.invariant.1, told)

pub returns-clause-seen : goal.returns-clause-seen
returns-clause-seen g c = last_grown _ _ c.args.chronicle.now c.grow.ensures
