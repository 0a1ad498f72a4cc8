use Rattle.configuration.proofs.SpellingLaws.{one}
use Rattle.configuration.proofs.laws.configurations_are_one.Goals as goal

pub returns : goal.returns
returns c = one
