use Rattle.grid.proofs.NearestLemmas.{number_is_nearest}
use Rattle.grid.proofs.laws.number_is_nearest.Goals as goal

pub returns : goal.returns
returns c = number_is_nearest
