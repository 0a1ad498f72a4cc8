use Rattle.std.proofs.Common.{◌≡◌, []}
use Rattle.configuration.specs.Configs.{count_before_again}
use Rattle.configuration.proofs.ConfigLemmas.{again_at}
use Rattle.configuration.proofs.configs.count_before_again.Given as goal

abbrev pub invariant-loop-index : goal.invariant-loop-index
invariant-loop-index l = again_at l.index l.subjects ≡ count_before_again [] l.subjects
