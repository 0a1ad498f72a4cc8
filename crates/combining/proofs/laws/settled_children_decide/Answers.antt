use Rattle.combining.proofs.SettledLemmas.{settled-combined}
use Rattle.combining.proofs.laws.settled_children_decide.Goals as goal

pub returns : goal.returns
returns c = settled-combined
