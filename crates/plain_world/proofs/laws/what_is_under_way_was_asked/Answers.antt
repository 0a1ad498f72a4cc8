use Rattle.plain_world.proofs.AskedLemmas.{is_asked}
use Rattle.plain_world.proofs.laws.what_is_under_way_was_asked.Goals as goal

pub returns : goal.returns
returns c = λ event old new reply happens. is_asked event old new reply happens
