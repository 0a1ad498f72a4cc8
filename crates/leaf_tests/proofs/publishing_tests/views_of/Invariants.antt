use Rattle.std.proofs.Common.{◌≡◌}
use Rattle.leaf_tests.proofs.publishing_tests.views_of.Given as goal

abbrev pub invariant-loop : goal.invariant-loop
invariant-loop g l = l.publisher ≡ l.fn.publisher
