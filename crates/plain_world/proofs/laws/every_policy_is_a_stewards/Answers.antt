use Rattle.plain_world.proofs.AnswerLemmas.{accounts, policy_stewards}
use Rattle.plain_world.proofs.laws.every_policy_is_a_stewards.Goals as goal

pub returns : goal.returns
returns c = λ old mid new before seat document edition sound run happens.
    (policy_stewards seat document edition mid new happens, accounts old mid before sound run)
