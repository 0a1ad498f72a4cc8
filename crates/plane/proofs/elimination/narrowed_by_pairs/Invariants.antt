use Rattle.plane.proofs.Narrowing.{PairedSoFar}
use Rattle.plane.proofs.elimination.narrowed_by_pairs.Given as goal

abbrev pub invariant-loop-other : goal.invariant-loop-other
invariant-loop-other l = PairedSoFar l.rows l.row l.other-index l.fn.gap l.gap
