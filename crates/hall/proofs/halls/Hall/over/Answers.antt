use Rattle.std.proofs.Common.{None, ap, ◌∙◌}
use Rattle.std.specs.List.{last_or}
use Rattle.answer_tray.specs.Trays.{TrayData, records_of}
use Rattle.hall.specs.Present.{policy_of}
use Rattle.hall.proofs.Level.{opened_last}
use Rattle.hall.proofs.halls.Hall.over.Goals as goal

pub new-tray-requires-clause-empty : goal.new-tray-requires-clause-empty
new-tray-requires-clause-empty g c =
    ap records_of (opened_last g.L.HallName.opening c.args.chronicle _ _ c.requires.opened (c.again.ensures ∙ c.grow.ensures))

pub new-lobby-requires-clause-in_force : goal.new-lobby-requires-clause-in_force
new-lobby-requires-clause-in_force g c =
    ap (λ (t : TrayData). policy_of (last_or None t.seen)) c.new-tray.ensures
    ∙ ap policy_of (opened_last g.L.HallName.opening c.args.chronicle _ _ c.requires.opened (c.again.ensures ∙ c.grow.ensures))
