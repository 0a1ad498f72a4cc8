use Rattle.std.proofs.Common.{◌<◌, length}
use Rattle.convex_parts.proofs.regions.least_index.Given as goal

abbrev pub invariant-loop-index : goal.invariant-loop-index
invariant-loop-index g l = 0 < length l.rings → l.least < length l.rings
