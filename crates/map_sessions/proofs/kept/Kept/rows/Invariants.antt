use Rattle.std.proofs.Common.{◌≡◌, drop}
use Rattle.map_sessions.specs.Keeping.{rows_asked}
use Rattle.map_sessions.proofs.kept.Kept.rows.Given as goal

abbrev pub invariant-loop-answer : goal.invariant-loop-answer
invariant-loop-answer g l =
    rows_asked l.number l.layer l.asker (drop l.answer-index l.self.answers.items)
    ≡ rows_asked l.number l.layer l.asker l.self.answers.items
