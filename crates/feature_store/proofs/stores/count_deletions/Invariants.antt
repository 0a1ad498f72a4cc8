use Rattle.std.proofs.Common.{◌≡◌, ◌+◌, drop}
use Rattle.features.specs.Changes.{deletions}
use Rattle.feature_store.proofs.stores.count_deletions.Given as goal

abbrev pub invariant-loop-change : goal.invariant-loop-change
invariant-loop-change l = l.count + deletions (drop l.change-index l.changes) ≡ deletions l.changes
