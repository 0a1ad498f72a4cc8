use Rattle.std.proofs.Common.{◌≡◌, ◌≤◌, ◌*◌, ◌^◌, drop}
use Rattle.std.specs.Prelude.{◌+ℤ◌, unsigned_abs}
use Rattle.convex_parts.specs.Paths.{along, doubled_area}
use Rattle.convex_parts.proofs.rings.area.Given as goal

abbrev pub invariant-loop-index : goal.invariant-loop-index
invariant-loop-index l = record {
  adds_up : l.sum +ℤ along doubled_area (drop l.index l.ring) ≡ along doubled_area l.ring;
  small : unsigned_abs l.sum ≤ l.index * 2 ^ 65;
}
