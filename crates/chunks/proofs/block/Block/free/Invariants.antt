use Rattle.std.proofs.Common.{◌≡◌}
use Rattle.chunks.proofs.Emptied.{IsEmptied}
use Rattle.chunks.proofs.block.Block.free.Given as goal

abbrev pub invariant-loop-place : goal.invariant-loop-place
invariant-loop-place g l = (l.self.heap ≡ l.fn.self.heap) × IsEmptied l.fn.self.items l.self.items l.place
