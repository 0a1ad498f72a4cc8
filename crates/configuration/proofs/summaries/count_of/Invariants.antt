use Rattle.std.proofs.Common.{◌≡◌, ◌≤◌, fold, take}
use Rattle.configuration.specs.Summaries.{counted}
use Rattle.configuration.proofs.summaries.count_of.Given as goal

abbrev pub invariant-loop-flag : goal.invariant-loop-flag
invariant-loop-flag l = (l.count ≡ fold (counted l.wanted) 0 (take l.flag-index l.flags)) × (l.count ≤ l.flag-index)
