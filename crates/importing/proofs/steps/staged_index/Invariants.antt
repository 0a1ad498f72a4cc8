use Rattle.std.proofs.Common.{◌≡◌, ◌⊎◌, ◌<◌, take}
use Rattle.std.specs.Prelude.{count_by}
use Rattle.importing.specs.Steps.{is_staged}
use Rattle.importing.proofs.steps.staged_index.Given as goal

abbrev pub invariant-loop-index : goal.invariant-loop-index
invariant-loop-index l = (l.count ≡ count_by is_staged (take l.index l.adds)) × ((l.change ≡ 0) ⊎ (l.count < l.change))
