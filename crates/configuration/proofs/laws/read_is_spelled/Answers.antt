use Rattle.configuration.proofs.SpellingLaws.{found, again}
use Rattle.configuration.proofs.laws.read_is_spelled.Goals as goal

pub returns-clause-found : goal.returns-clause-found
returns-clause-found c = found

pub returns-clause-only : goal.returns-clause-only
returns-clause-only c = again
