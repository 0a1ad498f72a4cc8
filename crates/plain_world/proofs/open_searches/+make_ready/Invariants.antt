use Rattle.std.proofs.Common.{length}
use Rattle.plain_world.proofs.open_searches.+make_ready.Given as goal

abbrev pub decreases-make_ready : goal.decreases-make_ready
decreases-make_ready l = length l.searches.now
