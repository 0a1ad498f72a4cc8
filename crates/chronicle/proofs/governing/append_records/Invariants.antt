use Rattle.std.proofs.Common.{◌≡◌, ◌++◌, map, take, length}
use Rattle.std.specs.Arc.{arc_value}
use Rattle.chronicle.proofs.governing.append_records.Given as goal

abbrev pub invariant-loop-index : goal.invariant-loop-index
invariant-loop-index g l = record {
  appended : map arc_value l.rolled.items ≡ map arc_value l.fn.rolled.items ++ take l.index l.trail.records;
  front : take (length l.fn.rolled.items) l.rolled.items ≡ l.fn.rolled.items;
}
