use Rattle.std.proofs.Common.{◌≤◌}
use Rattle.convex_parts.proofs.rings.least_index.Given as goal

abbrev pub invariant-loop-index : goal.invariant-loop-index
invariant-loop-index l = l.least ≤ l.index
