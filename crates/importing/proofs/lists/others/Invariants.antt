use Rattle.std.proofs.Common.{◌≤◌, ◌<◌, vec_len}
use Rattle.importing.proofs.lists.others.Given as goal

abbrev pub invariant-loop-index : goal.invariant-loop-index
invariant-loop-index g l = record {
  few : vec_len l.left ≤ l.index;
  fewer : l.without < l.index → vec_len l.left < l.index;
}
