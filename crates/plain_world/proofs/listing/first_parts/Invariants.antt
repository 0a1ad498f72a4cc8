use Rattle.std.proofs.Common.{◌≡◌, map, take}
use Rattle.plain_world.proofs.listing.first_parts.Given as goal

abbrev pub invariant-loop-pair : goal.invariant-loop-pair
invariant-loop-pair g l = l.ids.items ≡ map (λ pair. pair.0) (take l.pair-index l.found)
