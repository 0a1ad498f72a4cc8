use Rattle.std.proofs.Common.{◌≡◌, drop}
use Rattle.map_answers.specs.Rows.{row_of}
use Rattle.map_answers.proofs.rows.feature_of.Given as goal

abbrev pub invariant-loop-row : goal.invariant-loop-row
invariant-loop-row l = row_of l.layer l.id (drop l.row-index l.rows) ≡ row_of l.layer l.id l.rows
