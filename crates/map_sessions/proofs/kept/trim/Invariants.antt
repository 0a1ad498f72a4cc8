use Rattle.std.proofs.Common.{◌≡◌, vec_len}
use Rattle.map_sessions.specs.Keeping.{trimmed}
use Rattle.map_sessions.proofs.kept.trim.Given as goal

abbrev pub invariant-loop-answers : goal.invariant-loop-answers
invariant-loop-answers g l = trimmed l.answers.items ≡ trimmed l.fn.answers.items

abbrev pub decreases-loop-answers : goal.decreases-loop-answers
decreases-loop-answers g l = vec_len l.answers
