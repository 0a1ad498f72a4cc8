use Rattle.std.proofs.lemmas.Bool.Decides.{Decides-at}
use Rattle.features.specs.Equality.{same_change, same_change_decides}
use Rattle.features.proofs.rows.ChangePartialEq.eq.Goals as goal

pub returns-clause-exact : goal.returns-clause-exact
returns-clause-exact c = Decides-at c.is_same.result (same_change c.args.self.now c.args.other.now) c.is_same.ensures (same_change_decides c.args.self.now c.args.other.now)
