use Rattle.plain_world.proofs.AnswerLemmas.{piece_stewards}
use Rattle.plain_world.proofs.laws.every_roll_is_a_stewards.Goals as goal

pub returns : goal.returns
returns c = λ old new seat piece happens. piece_stewards seat old new piece happens
