use Rattle.std.proofs.Common.{take}
use Rattle.combining.specs.Holding.{match_holds}
use Rattle.decision.proofs.KnownLemmas.{SameAll}
use Rattle.decision.proofs.known.keep_all_of.Given as goal

abbrev pub invariant-loop-test : goal.invariant-loop-test
invariant-loop-test g l = SameAll l.known match_holds (take l.test-index l.tests) l.kept.items
