use Rattle.std.specs.Prelude.{◌≡◌, drop}
use Rattle.plane.specs.Rings.{has_repeat}
use Rattle.plane.proofs.ring.has_repeat.Given as goal

abbrev pub invariant-loop-index : goal.invariant-loop-index
invariant-loop-index l = has_repeat (drop l.index l.points) ≡ has_repeat l.points
