use Rattle.std.proofs.Common.{◌≤◌, length}
use Rattle.convex_parts.proofs.bridges.nearest_corner.Given as goal

abbrev pub invariant-loop-index : goal.invariant-loop-index
invariant-loop-index l = l.nearest ≤ length l.ring
