use Rattle.frame_keys.proofs.MaskHulls.{IsLeastOfFirst}
use Rattle.frame_keys.proofs.split.hull_of.Given as goal

abbrev pub invariant-loop-i : goal.invariant-loop-i
invariant-loop-i l = IsLeastOfFirst l.frame l.keys l.mask l.i
