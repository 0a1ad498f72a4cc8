use Rattle.std.proofs.Common.{take}
use Rattle.world.specs.Filling.{GetsRows}
use Rattle.world.proofs.filling.fill.Given as goal

abbrev pub invariant-loop-row : goal.invariant-loop-row
invariant-loop-row g l = GetsRows l.fn.index l.index (take l.row-index l.rows)
