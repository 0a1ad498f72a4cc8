use Rattle.std.proofs.Common.{◌≡◌, true, take}
use Rattle.std.specs.List.{list_all, list_any}
use Rattle.combining.specs.Holding.{match_holds}
use Rattle.combining.proofs.holding.target_holds.Given as goal

abbrev pub invariant-loop-part : goal.invariant-loop-part
invariant-loop-part g l = list_all (list_any (list_all (match_holds l.question l.met))) (take l.part-index l.parts) ≡ true
