use Rattle.std.specs.Prelude.{◌≡◌, drop}
use Rattle.std.specs.List.{list_all}
use Rattle.plane.specs.Rings.{is_on_or_left, goes_left, sides_to, first_of}
use Rattle.plane.proofs.ring.goes_left.Given as goal

abbrev pub invariant-loop-index : goal.invariant-loop-index
invariant-loop-index l = list_all (λ side. list_all (is_on_or_left side) l.ring) (sides_to (first_of l.ring) (drop l.index l.ring)) ≡ goes_left l.ring
