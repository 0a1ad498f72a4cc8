use Rattle.grid.proofs.ClosestLemmas.{high_is_closest, low_is_closest}
use Rattle.grid.proofs.laws.bound_is_closest.Goals as goal

pub returns : goal.returns
returns c = record { low = low_is_closest; high = high_is_closest }
