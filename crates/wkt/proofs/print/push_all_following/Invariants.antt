use Rattle.std.proofs.Common.{◌≡◌, ◌+◌, ◌*◌, ◌≤◌, ◌++◌, take}
use Rattle.std.specs.List.{flat_map}
use Rattle.arrayvec.specs.ArrayString.{array_string_len}
use Rattle.wkt.specs.Printing.{following_text}
use Rattle.wkt.proofs.print.push_all_following.Given as goal

abbrev pub invariant-loop-p : goal.invariant-loop-p
invariant-loop-p l = record {
  bytes : l.text.bytes ≡ l.fn.text.bytes ++ flat_map following_text (take l.p-index l.ps);
  room : array_string_len l.text ≤ array_string_len l.fn.text + 21 * l.p-index;
}
