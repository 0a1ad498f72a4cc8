use Rattle.plain_world.proofs.RecordLemmas.{adds_alone}
use Rattle.plain_world.proofs.laws.records_are_added_alone.Goals as goal

pub returns : goal.returns
returns c = λ event old new reply happens. adds_alone event old new reply happens
