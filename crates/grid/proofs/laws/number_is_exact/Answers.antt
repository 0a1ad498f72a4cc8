use Rattle.grid.proofs.ExactLemmas.{number_is_exact}
use Rattle.grid.proofs.laws.number_is_exact.Goals as goal

pub returns : goal.returns
returns c = number_is_exact
