use Rattle.std.proofs.Common.{length}
use Rattle.plain_world.proofs.open_transactions.+place_in.Given as goal

abbrev pub decreases-place_in : goal.decreases-place_in
decreases-place_in g l = length l.transactions.now
