use Rattle.judging.proofs.JudgingLemmas.{JudgedFrom-one, JudgedFrom_founded}
use Rattle.judging.proofs.ListingLemmas.{listed_once}
use Rattle.judging.proofs.laws.answers_are_one.Goals as goal

pub returns-clause-rows : goal.returns-clause-rows
returns-clause-rows c state subject window rows others first second =
    listed_once state.decider.document subject window state.features rows others first second

pub returns-clause-judgement : goal.returns-clause-judgement
returns-clause-judgement c state subject changes a b first second =
    JudgedFrom-one 1 state.decider.document state.features subject changes a b first second

pub returns-clause-founded : goal.returns-clause-founded
returns-clause-founded c state subject changes judgement judged =
    JudgedFrom_founded 1 state.decider.document state.features subject changes judgement judged
