use Rattle.std.proofs.Common.{◌≡◌, take}
use Rattle.map_answers.specs.Rows.{of_layer}
use Rattle.map_answers.proofs.rows.rows_of.Given as goal

abbrev pub invariant-loop-row : goal.invariant-loop-row
invariant-loop-row g l = l.kept.items ≡ of_layer l.layer (take l.row-index l.rows)
