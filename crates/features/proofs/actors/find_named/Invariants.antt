use Rattle.std.proofs.Common.{◌≡◌, drop}
use Rattle.features.specs.Subjects.{subject_named}
use Rattle.features.proofs.actors.find_named.Given as goal

abbrev pub invariant-loop-subject : goal.invariant-loop-subject
invariant-loop-subject l = subject_named l.name (drop l.subject-index l.subjects) ≡ subject_named l.name l.subjects
