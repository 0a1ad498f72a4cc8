use Rattle.plain_world.proofs.OrderLemmas.{opened_sound, opened_ordered, opened_from_sound, opened_from_ordered, ordered_run, answer_rising, whole_answer_rising}
use Rattle.plain_world.proofs.laws.every_run_is_ordered.Goals as goal

pub returns-clause-opened : goal.returns-clause-opened
returns-clause-opened c subjects decider starts limits = (opened_sound subjects decider starts limits, opened_ordered subjects decider starts limits)

pub returns-clause-run : goal.returns-clause-run
returns-clause-run c old new steps ordered run = ordered_run old steps new run ordered

pub returns-clause-rising : goal.returns-clause-rising
returns-clause-rising c old mid new before seat number answer ordered run happens =
    answer_rising seat number mid new answer (ordered_run old before mid run ordered) happens

pub returns-clause-opened_from : goal.returns-clause-opened_from
returns-clause-opened_from c subjects base starts limits sorted = (opened_from_sound subjects base starts limits, opened_from_ordered subjects base starts limits sorted)

pub returns-clause-whole : goal.returns-clause-whole
returns-clause-whole c old mid new before seat window answer ordered run happens =
    whole_answer_rising seat window mid new answer (ordered_run old before mid run ordered) happens
