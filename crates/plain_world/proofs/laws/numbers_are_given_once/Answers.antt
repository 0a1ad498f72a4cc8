use Rattle.plain_world.proofs.SettingsLemmas.{settled}
use Rattle.plain_world.proofs.laws.numbers_are_given_once.Goals as goal

pub returns : goal.returns
returns c = λ event old new reply happens. settled event old new reply happens
