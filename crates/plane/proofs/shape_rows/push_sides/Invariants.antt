use Rattle.plane.proofs.Sides.{SidesSoFar}
use Rattle.plane.proofs.shape_rows.push_sides.Given as goal

abbrev pub invariant-loop-index : goal.invariant-loop-index
invariant-loop-index l = SidesSoFar l.fn.rows.items l.ring l.index l.rows.items
