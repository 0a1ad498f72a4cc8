use Rattle.std.proofs.Common.{◌≡◌, length}
use Rattle.features.specs.Subjects.{have_distinct_names}
use Rattle.features.proofs.actors.have_distinct_names.Given as goal

abbrev pub invariant-loop-first : goal.invariant-loop-first
invariant-loop-first l = have_distinct_names l.rest ≡ have_distinct_names l.subjects

abbrev pub decreases-loop-first : goal.decreases-loop-first
decreases-loop-first l = length l.rest
