use Rattle.std.proofs.Common.{◌-◌, ◌≤◌, length}
use Rattle.feature_store.proofs.blocks.block_by_ends.Given as goal

abbrev pub invariant-loop-low : goal.invariant-loop-low
invariant-loop-low l = record {
  ordered : l.low ≤ l.high;
  within : l.high ≤ length l.ends;
}

abbrev pub decreases-loop-low : goal.decreases-loop-low
decreases-loop-low l = l.high - l.low
