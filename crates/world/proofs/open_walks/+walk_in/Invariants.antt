use Rattle.std.proofs.Common.{length}
use Rattle.world.proofs.open_walks.+walk_in.Given as goal

abbrev pub decreases-walk_in : goal.decreases-walk_in
decreases-walk_in l = length l.journeys.now
