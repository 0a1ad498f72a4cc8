use Rattle.std.proofs.Common.{◌≡◌, take, map}
use Rattle.std.specs.Arc.{arc_value}
use Rattle.answer_tray.specs.Trays.{with_records}
use Rattle.answer_tray.proofs.taking.taken_by.Given as goal

abbrev pub invariant-loop-place : goal.invariant-loop-place
invariant-loop-place g l = l.chronicle ≡ with_records l.fn.chronicle (take l.place (map arc_value l.answers))
