use Rattle.plain_world.proofs.AnswerLemmas.{accounts}
use Rattle.plain_world.proofs.OutcomeLemmas.{outcome_judgement}
use Rattle.plain_world.proofs.laws.every_outcome_is_the_judgement.Goals as goal

pub returns : goal.returns
returns c = λ old mid new before seat number outcome sound run happens.
    (outcome_judgement seat number mid new outcome happens, accounts old mid before sound run)
