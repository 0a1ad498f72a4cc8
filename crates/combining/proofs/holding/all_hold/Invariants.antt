use Rattle.std.proofs.Common.{◌≡◌, true, take}
use Rattle.std.specs.List.{list_all}
use Rattle.combining.specs.Holding.{match_holds}
use Rattle.combining.proofs.holding.all_hold.Given as goal

abbrev pub invariant-loop-test : goal.invariant-loop-test
invariant-loop-test g l = list_all (match_holds l.question l.met) (take l.test-index l.tests) ≡ true
