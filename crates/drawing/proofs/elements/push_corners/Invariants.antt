use Rattle.std.proofs.Common.{◌≡◌, ◌+◌, ◌*◌, ◌≤◌, ◌++◌, take}
use Rattle.std.specs.List.{flat_map}
use Rattle.arrayvec.specs.ArrayVec.{array_vec_len}
use Rattle.drawing.specs.Elements.{corner_text}
use Rattle.drawing.proofs.elements.push_corners.Given as goal

abbrev pub invariant-loop-p : goal.invariant-loop-p
invariant-loop-p l = record {
  items : l.element.items ≡ l.fn.element.items ++ flat_map corner_text (take l.p-index l.corners);
  room : array_vec_len l.element ≤ array_vec_len l.fn.element + 24 * l.p-index;
}
