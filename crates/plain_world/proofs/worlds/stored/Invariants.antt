use Rattle.std.proofs.Common.{◌≡◌, take}
use Rattle.plain_world.proofs.worlds.stored.Given as goal

abbrev pub invariant-loop-row : goal.invariant-loop-row
invariant-loop-row g l = l.store ≡ take l.row-index l.rows
