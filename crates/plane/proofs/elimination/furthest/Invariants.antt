use Rattle.plane.proofs.Narrowing.{BestSoFar}
use Rattle.plane.proofs.elimination.furthest.Given as goal

abbrev pub invariant-loop-row : goal.invariant-loop-row
invariant-loop-row l = BestSoFar l.rows l.height.y l.height.w l.row-index l.best
