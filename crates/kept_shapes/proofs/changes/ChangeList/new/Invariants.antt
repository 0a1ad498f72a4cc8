use Rattle.std.proofs.Common.{◌≡◌, ◌++◌, drop}
use Rattle.kept_shapes.proofs.changes.ChangeList.new.Given as goal

abbrev pub invariant-loop-change : goal.invariant-loop-change
invariant-loop-change g l = l.list.items ++ drop l.change-index l.changes ≡ l.changes
