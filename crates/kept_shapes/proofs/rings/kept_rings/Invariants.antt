use Rattle.std.proofs.Common.{◌≡◌, drop}
use Rattle.kept_shapes.specs.Rings.{rings_in}
use Rattle.kept_shapes.proofs.rings.kept_rings.Given as goal

abbrev pub invariant-loop-at : goal.invariant-loop-at
invariant-loop-at g l = l.rings ≡ rings_in (drop l.at l.changes)
