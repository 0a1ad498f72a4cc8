use Rattle.std.proofs.Common.{arith, refl, inr}
use Rattle.frame_keys.proofs.MaskBits.{half_set}
use Rattle.frame_keys.proofs.split.right_part.Goals as goal

pub best_cut-across-requires-clause-picked : goal.best_cut-across-requires-clause-picked
best_cut-across-requires-clause-picked c = record { even = record { least = omega (arith, half_set); most = omega (arith, half_set) }; picked = inr refl }
