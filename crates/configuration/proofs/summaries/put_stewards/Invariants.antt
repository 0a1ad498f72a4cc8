use Rattle.std.proofs.Common.{◌≡◌, ◌++◌, map, take}
use Rattle.configuration.proofs.summaries.put_stewards.Given as goal

abbrev pub invariant-loop-subject : goal.invariant-loop-subject
invariant-loop-subject g l = l.flags.items ≡ l.fn.flags.items ++ map (λ s. s.steward) (take l.subject-index l.subjects)
