use Rattle.std.proofs.Common.{refl}
use Rattle.scripts.proofs.laws.opened_world_is_idle.Goals as goal

pub returns : goal.returns
returns c = λ subjects decider starts limits. record { searches = refl; transactions = refl }
