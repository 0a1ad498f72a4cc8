use Rattle.plain_world.proofs.ForceLemmas.{forced}
use Rattle.plain_world.proofs.laws.policy_in_force_is_the_last.Goals as goal

pub returns : goal.returns
returns c = λ old new steps run. forced old steps new run
