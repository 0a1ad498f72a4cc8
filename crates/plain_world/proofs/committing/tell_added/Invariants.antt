use Rattle.std.proofs.Common.{◌≡◌}
use Rattle.plain_world.proofs.committing.tell_added.Given as goal

abbrev pub invariant-loop-change : goal.invariant-loop-change
invariant-loop-change l = l.in_force ≡ l.fn.in_force
