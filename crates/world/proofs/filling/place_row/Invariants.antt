use Rattle.std.proofs.Common.{◌≡◌, false, []}
use Rattle.world.specs.Filling.{GetsAll}
use Rattle.world.proofs.filling.place_row.Given as goal

-- the walk is for the feature's pair, and nothing is placed yet
abbrev pub invariant-steps : goal.invariant-steps
invariant-steps g l = (l.walk.key ≡ l.row.id) × (l.walk.item ≡ l.row.shape) × (l.walk.placed ≡ false) × GetsAll l.fn.index l.index []
