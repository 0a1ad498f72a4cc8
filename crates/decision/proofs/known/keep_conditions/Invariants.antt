use Rattle.std.proofs.Common.{take}
use Rattle.combining.specs.Holding.{atom_holds}
use Rattle.decision.proofs.KnownLemmas.{SameAll}
use Rattle.decision.proofs.known.keep_conditions.Given as goal

abbrev pub invariant-loop-atom : goal.invariant-loop-atom
invariant-loop-atom g l = SameAll l.known atom_holds (take l.atom-index l.atoms) l.kept.items
