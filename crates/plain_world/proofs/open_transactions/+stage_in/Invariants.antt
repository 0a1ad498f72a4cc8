use Rattle.std.proofs.Common.{length}
use Rattle.plain_world.proofs.open_transactions.+stage_in.Given as goal

abbrev pub decreases-stage_in : goal.decreases-stage_in
decreases-stage_in g l = length l.transactions.now
