use Rattle.std.proofs.Common.{length}
use Rattle.world.proofs.worked_run.+make_all.Given as goal

abbrev pub decreases-make_all : goal.decreases-make_all
decreases-make_all g l = length l.calls.now
