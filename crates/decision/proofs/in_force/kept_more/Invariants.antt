use Rattle.std.proofs.Common.{◌≡◌}
use Rattle.decision.proofs.in_force.kept_more.Given as goal

abbrev pub invariant-loop : goal.invariant-loop
invariant-loop l = l.rests ≡ l.fn.rests
