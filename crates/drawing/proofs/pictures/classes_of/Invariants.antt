use Rattle.std.proofs.Common.{◌≡◌, ◌≤◌, drop, vec_capacity}
use Rattle.std.specs.List.{fold}
use Rattle.drawing.specs.Pictures.{classes_of, with_class}
use Rattle.drawing.specs.declared.pictures.TheConstants.{COLOURS}
use Rattle.drawing.proofs.pictures.classes_of.Given as goal

abbrev pub invariant-loop-mark : goal.invariant-loop-mark
invariant-loop-mark g l = record {
  classes : fold with_class l.classes.items (drop l.mark-index l.marks) ≡ classes_of l.marks;
  room : COLOURS ≤ vec_capacity l.classes;
}
