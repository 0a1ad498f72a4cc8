use Rattle.std.proofs.Common.{take}
use Rattle.decision.specs.Known.{all_hold}
use Rattle.decision.proofs.KnownLemmas.{SameAny}
use Rattle.decision.proofs.known.keep_any_of.Given as goal

abbrev pub invariant-loop-matches : goal.invariant-loop-matches
invariant-loop-matches g l = SameAny l.known all_hold (take l.matches-index l.rows) l.kept.items
