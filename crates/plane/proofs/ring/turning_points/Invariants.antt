use Rattle.std.specs.Prelude.{◌≡◌, ◌≤◌, ◌++◌, drop}
use Rattle.plane.specs.Points.{IsInRange}
use Rattle.plane.specs.Rings.{turning, turning_points, first_of}
use Rattle.arrayvec.specs.ArrayVec.{array_vec_len}
use Rattle.plane.proofs.ring.turning_points.Given as goal

abbrev pub invariant-loop-index : goal.invariant-loop-index
invariant-loop-index l = record {
  told : l.corners.items ++ turning l.before (first_of l.ring) (drop l.index l.ring) ≡ turning_points l.ring;
  room : array_vec_len l.corners ≤ l.index;
  in_range : IsInRange l.before;
}
