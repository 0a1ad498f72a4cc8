use Rattle.std.specs.Prelude.{IsTrue}
use Rattle.frame_keys.proofs.MaskBits.{Tells}
use Rattle.frame_keys.specs.Splits.{middle, is_behind}
use Rattle.frame_keys.proofs.split.behind.Given as goal

abbrev pub invariant-loop-i : goal.invariant-loop-i
invariant-loop-i l = Tells (λ i key. IsTrue (is_behind (middle l.axis key) i l.at l.place)) l.keys l.mask l.i
