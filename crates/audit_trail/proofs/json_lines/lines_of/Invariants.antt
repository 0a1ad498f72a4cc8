use Rattle.std.proofs.Common.{◌≡◌, ◌+◌, ◌++◌, map, drop, string_bytes}
use Rattle.std.specs.Arc.{arc_value}
use Rattle.audit_trail.specs.JsonLines.{lines_from}
use Rattle.audit_trail.proofs.json_lines.lines_of.Given as goal

abbrev pub invariant-loop-entry : goal.invariant-loop-entry
invariant-loop-entry g l = record {
  place : l.place ≡ l.entry-index;
  told : map string_bytes l.lines.items ++ lines_from (l.first + l.entry-index) (map arc_value (drop l.entry-index l.records)) ≡ lines_from l.first (map arc_value l.records);
}
