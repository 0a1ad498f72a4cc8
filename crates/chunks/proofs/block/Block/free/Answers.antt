use Rattle.std.proofs.Common.{arith}
use Rattle.chunks.proofs.Emptied.{IsSome-emptied, IsEmptied-step, IsFreeFrom-emptied}
use Rattle.chunks.proofs.block.Block.free.Goals as goal
