use Rattle.plain_world.proofs.JoinLemmas.{joined}
use Rattle.plain_world.proofs.laws.pieces_and_trail_join.Goals as goal

pub returns : goal.returns
returns c = λ old new steps sound run. joined old steps new run sound
