use Rattle.std.proofs.Common.{◌≡◌, ◌++◌, drop}
use Rattle.kept_shapes.proofs.changes.ChangeList.copied.Given as goal

abbrev pub invariant-loop-change : goal.invariant-loop-change
invariant-loop-change g l = l.changes.items ++ drop l.change-index l.self ≡ l.self
