use Rattle.std.proofs.Common.{◌≡◌, take}
use Rattle.combining.specs.Tallies.{tally_of}
use Rattle.combining.proofs.algorithms.combine.Given as goal

abbrev pub invariant-loop-decision : goal.invariant-loop-decision
invariant-loop-decision l = l.tally ≡ tally_of (take l.decision-index l.decisions)
