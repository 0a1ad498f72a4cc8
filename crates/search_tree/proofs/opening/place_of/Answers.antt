use Rattle.std.proofs.Common.{arith}
use Rattle.search_tree.proofs.ProgressLemmas.{nowhere}
use Rattle.search_tree.proofs.opening.place_of.Goals as goal

pub returns-clause-none : goal.returns-clause-none
returns-clause-none g c = nowhere c.args.number c.args.progress.now (λ k d within. c.loop-at.invariant k d (omega arith))
