use Rattle.std.proofs.Common.{◌≡◌, map, take}
use Rattle.plain_world.proofs.listing.versions_of.Given as goal

abbrev pub invariant-loop-row : goal.invariant-loop-row
invariant-loop-row g l = l.versions.items ≡ map (λ row. row.version) (take l.row-index l.rows)
