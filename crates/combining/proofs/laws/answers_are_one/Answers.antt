use Rattle.combining.proofs.OneAnswer.{AreMet-one, Answers-one}
use Rattle.combining.proofs.laws.answers_are_one.Goals as goal

pub returns : goal.returns
returns c = record { met = AreMet-one; verdict = Answers-one }
