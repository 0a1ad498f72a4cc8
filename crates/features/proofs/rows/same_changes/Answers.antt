use Rattle.std.proofs.lemmas.Bool.Decides.{Decides-at}
use Rattle.features.specs.Equality.{same_changes, same_changes_decides}
use Rattle.features.proofs.rows.same_changes.Goals as goal

pub returns-clause-exact : goal.returns-clause-exact
returns-clause-exact c = Decides-at c.eq.result (same_changes c.args.one.now c.args.other.now) c.eq.ensures (same_changes_decides c.args.one.now c.args.other.now)
