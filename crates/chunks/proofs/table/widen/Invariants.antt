use Rattle.std.proofs.Common.{◌≡◌}
use Rattle.chunks.proofs.Emptied.{IsEmptied, IsPoured}
use Rattle.chunks.proofs.table.widen.Given as goal

abbrev pub invariant-loop-place : goal.invariant-loop-place
invariant-loop-place g l =
    (l.block.heap ≡ l.fn.block.heap) × (l.wide.heap ≡ l.fn.alloc) × IsEmptied l.fn.block.items l.block.items l.place × IsPoured l.fn.block.items l.wide.items l.fn.wider l.place
