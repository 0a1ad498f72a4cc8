use Rattle.plain_world.proofs.UnderWayLemmas.{opened_way, opened_from_way, way_run}
use Rattle.plain_world.proofs.laws.what_is_under_way_is_in_order.Goals as goal

pub returns-clause-opened : goal.returns-clause-opened
returns-clause-opened c subjects decider starts limits = opened_way subjects decider starts limits

pub returns-clause-run : goal.returns-clause-run
returns-clause-run c old new steps ordered run = way_run old steps new run ordered

pub returns-clause-opened_from : goal.returns-clause-opened_from
returns-clause-opened_from c subjects base starts limits = opened_from_way subjects base starts limits
