use Rattle.std.proofs.Common.{◌≡◌, drop}
use Rattle.map_sessions.specs.Keeping.{fits_in}
use Rattle.map_sessions.specs.declared.kept.TheConstants.{KEPT_ROWS_LIMIT}
use Rattle.map_sessions.proofs.kept.have_few_rows.Given as goal

abbrev pub invariant-loop-answer : goal.invariant-loop-answer
invariant-loop-answer g l =
    fits_in l.left (drop l.answer-index l.answers) ≡ fits_in KEPT_ROWS_LIMIT l.answers
