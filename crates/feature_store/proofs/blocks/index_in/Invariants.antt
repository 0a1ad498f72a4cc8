use Rattle.std.proofs.Common.{◌-◌, ◌<◌, ◌≤◌, length}
use Rattle.feature_store.specs.Blocks.{entry_at}
use Rattle.feature_store.proofs.blocks.index_in.Given as goal

abbrev pub invariant-loop-low : goal.invariant-loop-low
invariant-loop-low l = record {
  ordered : l.low ≤ l.high;
  within : l.high ≤ length l.entries;
  before : 0 < l.low → (entry_at l.entries (l.low - 1)).id < l.id;
  behind : l.high < length l.entries → l.id ≤ (entry_at l.entries l.high).id;
}

abbrev pub decreases-loop-low : goal.decreases-loop-low
decreases-loop-low l = l.high - l.low
