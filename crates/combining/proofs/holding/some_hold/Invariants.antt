use Rattle.std.proofs.Common.{◌≡◌, false, take}
use Rattle.std.specs.List.{list_all, list_any}
use Rattle.combining.specs.Holding.{match_holds}
use Rattle.combining.proofs.holding.some_hold.Given as goal

abbrev pub invariant-loop-matches : goal.invariant-loop-matches
invariant-loop-matches g l = list_any (list_all (match_holds l.question l.met)) (take l.matches-index l.rows) ≡ false
