use Rattle.decision.proofs.RulingLemmas.{Rules-one}
use Rattle.decision.proofs.laws.rulings_are_one.Goals as goal

pub returns : goal.returns
returns c = Rules-one
