use Rattle.std.proofs.Common.{take}
use Rattle.decision.specs.Known.{some_hold}
use Rattle.decision.proofs.KnownLemmas.{SameAll}
use Rattle.decision.proofs.known.keep_target.Given as goal

abbrev pub invariant-loop-part : goal.invariant-loop-part
invariant-loop-part g l = SameAll l.known some_hold (take l.part-index l.parts) l.kept.items
