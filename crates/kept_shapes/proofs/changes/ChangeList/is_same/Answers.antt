use Rattle.std.proofs.lemmas.Bool.Decides.{Decides-at}
use Rattle.features.specs.Equality.{same_changes, same_changes_decides}
use Rattle.kept_shapes.proofs.changes.ChangeList.is_same.Goals as goal

pub returns-clause-exact : goal.returns-clause-exact
returns-clause-exact g c =
    let equal = c.eq.ensures in
    let told = rw (c.self.view_is, c.other.view_is) at equal in
    Decides-at c.eq.result (same_changes c.args.self.now c.args.other.now) told (same_changes_decides c.args.self.now c.args.other.now)
