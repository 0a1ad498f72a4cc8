use Rattle.std.specs.Prelude.{◌≡◌, drop}
use Rattle.plane.proofs.Frames.{extended}
use Rattle.plane.proofs.frame.frame_of.Given as goal

abbrev pub invariant-loop-point : goal.invariant-loop-point
invariant-loop-point l = extended l.frame (drop l.point-index l.points) ≡ extended l.initial.frame l.points
