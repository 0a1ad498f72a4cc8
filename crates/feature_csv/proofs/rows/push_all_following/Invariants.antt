use Rattle.std.proofs.Common.{◌≡◌, ◌+◌, ◌*◌, ◌≤◌, ◌++◌, take}
use Rattle.std.specs.List.{flat_map}
use Rattle.arrayvec.specs.ArrayVec.{array_vec_len}
use Rattle.feature_csv.specs.Rows.{following_text}
use Rattle.feature_csv.proofs.rows.push_all_following.Given as goal

abbrev pub invariant-loop-p : goal.invariant-loop-p
invariant-loop-p l = record {
  items : l.row.items ≡ l.fn.row.items ++ flat_map (following_text l.grid) (take l.p-index l.ps);
  room : array_vec_len l.row ≤ array_vec_len l.fn.row + 67 * l.p-index;
}
