use Rattle.std.proofs.Common.{◌≡◌, ◌≤◌, ◌+◌, length, drop}
use Rattle.plain_world.specs.Staging.{placements}
use Rattle.plain_world.proofs.open_transactions.placement_count.Given as goal

abbrev pub invariant-loop-change : goal.invariant-loop-change
invariant-loop-change l = record {
  told : l.count + length (placements (drop l.change-index l.changes)) ≡ length (placements l.changes);
  few : l.count ≤ l.change-index;
}
