use Rattle.std.proofs.Common.{None, ap, ◌∙◌}
use Rattle.std.specs.List.{last_or}
use Rattle.answer_tray.proofs.TrayLemmas.{answers_of, sound_with}
use Rattle.answer_tray.proofs.trays.Tray.sound.Goals as goal

pub returns-clause-sound : goal.returns-clause-sound
returns-clause-sound g c =
    let ends = ap (last_or None) c.meet.ensures ∙ c.requires in
    rw (← c.self.view_is) (sound_with c.args.chronicle.now _ c.sound.ensures (answers_of c.args.chronicle.now c.self.inside.seen _ ends c.self.invariant.0))
