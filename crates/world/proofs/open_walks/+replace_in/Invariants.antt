use Rattle.std.proofs.Common.{length}
use Rattle.world.proofs.open_walks.+replace_in.Given as goal

abbrev pub decreases-replace_in : goal.decreases-replace_in
decreases-replace_in l = length l.journeys.now
