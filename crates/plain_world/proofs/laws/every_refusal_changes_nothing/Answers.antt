use Rattle.plain_world.proofs.RefusalLemmas.{leaves}
use Rattle.plain_world.proofs.laws.every_refusal_changes_nothing.Goals as goal

pub returns : goal.returns
returns c = λ event old new fault happens. leaves event old new fault happens
