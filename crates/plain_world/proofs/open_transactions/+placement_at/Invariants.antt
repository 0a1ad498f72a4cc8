use Rattle.std.proofs.Common.{length}
use Rattle.plain_world.proofs.open_transactions.+placement_at.Given as goal

abbrev pub decreases-placement_at : goal.decreases-placement_at
decreases-placement_at l = length l.changes.now
