use Rattle.std.proofs.Common.{◌≡◌, ◌≤◌, ◌++◌, drop, vec_len}
use Rattle.convex_parts.specs.Lines.{steps_of}
use Rattle.convex_parts.specs.declared.faults.TheConstants.{PART_LIMIT}
use Rattle.convex_parts.proofs.lines.segments.Given as goal

abbrev pub invariant-loop-index : goal.invariant-loop-index
invariant-loop-index g l = record {
  told : l.parts.items ++ steps_of (drop l.index l.line) ≡ steps_of l.line;
  within : vec_len l.parts ≤ PART_LIMIT;
}
