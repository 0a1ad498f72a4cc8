use Rattle.std.proofs.Common.{◌≡◌}
use Rattle.chunks.proofs.Emptied.{IsEmptied}
use Rattle.chunks.proofs.table.Table.free.Given as goal

abbrev pub invariant-loop-k : goal.invariant-loop-k
invariant-loop-k g l = (l.chunks.heap ≡ l.initial.chunks.heap) × IsEmptied l.initial.chunks.items l.chunks.items l.k
