use Rattle.plain_world.proofs.AnswerLemmas.{accounts, answer_exact, whole_answer_exact}
use Rattle.plain_world.proofs.laws.every_answer_is_exact.Goals as goal

pub returns-clause-search : goal.returns-clause-search
returns-clause-search c old mid new before seat number answer sound run happens =
    (answer_exact seat number mid new answer happens, accounts old mid before sound run)

pub returns-clause-whole : goal.returns-clause-whole
returns-clause-whole c old mid new before seat window answer sound run happens =
    (whole_answer_exact seat window mid new answer happens, accounts old mid before sound run)
