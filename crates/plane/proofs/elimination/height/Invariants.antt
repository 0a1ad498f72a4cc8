use Rattle.plane.proofs.Narrowing.{HeightSoFar}
use Rattle.plane.proofs.elimination.height.Given as goal

abbrev pub invariant-loop-row : goal.invariant-loop-row
invariant-loop-row l = HeightSoFar l.rows l.row-index l.gap
