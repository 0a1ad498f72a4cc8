use Rattle.std.proofs.Common.{◌≡◌, ◌+◌, drop}
use Rattle.features.specs.Changes.{additions}
use Rattle.feature_store.proofs.stores.count_additions.Given as goal

abbrev pub invariant-loop-change : goal.invariant-loop-change
invariant-loop-change l = l.count + additions (drop l.change-index l.changes) ≡ additions l.changes
