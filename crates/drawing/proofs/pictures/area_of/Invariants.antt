use Rattle.std.proofs.Common.{◌≡◌, drop}
use Rattle.std.specs.List.{fold}
use Rattle.drawing.specs.Pictures.{area_of, with_mark}
use Rattle.drawing.proofs.pictures.area_of.Given as goal

abbrev pub invariant-loop-mark : goal.invariant-loop-mark
invariant-loop-mark l = fold with_mark l.area (drop l.mark-index l.marks) ≡ area_of l.marks
