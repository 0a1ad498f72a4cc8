use Rattle.std.proofs.Common.{◌≤◌, ◌+◌, ◌<◌, length}
use Rattle.convex_parts.specs.declared.cuts.TheConstants.{PART_CORNERS}
use Rattle.convex_parts.proofs.cuts.run_end.Given as goal

abbrev pub invariant-loop-next : goal.invariant-loop-next
invariant-loop-next l = (l.at + 1 ≤ l.end) × (l.end < length l.ring) × (l.end < l.at + PART_CORNERS)
