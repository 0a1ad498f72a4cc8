use Rattle.std.proofs.Common.{◌+◌, ◌-◌, ◌<◌, ◌≤◌, length}
use Rattle.feature_store.specs.Blocks.{block_at, last_of}
use Rattle.feature_store.proofs.blocks.block_for.Given as goal

abbrev pub invariant-loop-low : goal.invariant-loop-low
invariant-loop-low l = record {
  ordered : l.low ≤ l.high;
  within : l.high < length l.blocks;
  before : 0 < l.low → (last_of (block_at l.blocks (l.low - 1))).id < l.id;
  behind : l.high + 1 < length l.blocks → l.id ≤ (last_of (block_at l.blocks l.high)).id;
}

abbrev pub decreases-loop-low : goal.decreases-loop-low
decreases-loop-low l = l.high - l.low
