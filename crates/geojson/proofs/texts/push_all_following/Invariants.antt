use Rattle.std.proofs.Common.{◌≡◌, ◌+◌, ◌*◌, ◌≤◌, ◌++◌, take}
use Rattle.std.specs.List.{flat_map}
use Rattle.arrayvec.specs.ArrayVec.{array_vec_len}
use Rattle.geojson.specs.Texts.{following_text}
use Rattle.geojson.proofs.texts.push_all_following.Given as goal

abbrev pub invariant-loop-p : goal.invariant-loop-p
invariant-loop-p l = record {
  items : l.text.items ≡ l.fn.text.items ++ flat_map (following_text l.grid) (take l.p-index l.ps);
  room : array_vec_len l.text ≤ array_vec_len l.fn.text + 68 * l.p-index;
}
