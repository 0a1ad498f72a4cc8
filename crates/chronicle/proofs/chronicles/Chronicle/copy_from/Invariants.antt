use Rattle.std.proofs.Common.{◌≡◌, ◌+◌, ◌++◌, map, drop, take}
use Rattle.std.specs.Arc.{arc_value}
use Rattle.std.specs.Vec.{vec_capacity, vec_len}
use Rattle.chronicle.proofs.chronicles.Chronicle.copy_from.Given as goal

abbrev pub invariant-loop-index : goal.invariant-loop-index
invariant-loop-index g l = record {
  copied : map arc_value l.into.items ≡ map arc_value l.fn.into.items ++ take l.index (drop l.place l.self.records);
  filled : vec_len l.into ≡ vec_len l.fn.into + l.index;
  room : vec_capacity l.into ≡ vec_capacity l.fn.into;
}
