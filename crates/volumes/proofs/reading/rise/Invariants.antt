use Rattle.std.proofs.Common.{ℕ, suc, ◌<◌}
use Rattle.volumes.proofs.ReadingLemmas.{Rises}
use Rattle.volumes.proofs.reading.rise.Given as goal

abbrev pub invariant-loop-i : goal.invariant-loop-i
invariant-loop-i l = (k : ℕ) → suc k < l.i → Rises l.features k
