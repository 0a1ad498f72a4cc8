use Rattle.frame_keys.specs.Splits.{PicksRight}
use Rattle.frame_keys.proofs.split.best_cut.Given as goal

abbrev pub invariant-loop-place : goal.invariant-loop-place
invariant-loop-place l = PicksRight l.keys l.best.right
