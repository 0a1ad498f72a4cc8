use Rattle.std.proofs.Common.{◌≡◌, length}
use Rattle.leaf_tests.proofs.publishing_tests.publish_all.Given as goal

abbrev pub invariant-loop-edition : goal.invariant-loop-edition
invariant-loop-edition g l = length l.publisher ≡ l.edition
