use Rattle.std.specs.Prelude.{◌≡◌, drop}
use Rattle.std.specs.List.{list_all}
use Rattle.plane.specs.Rings.{is_on_or_left, sides, sides_to, first_of}
use Rattle.plane.proofs.ring.is_left_of_sides.Given as goal

abbrev pub invariant-loop-index : goal.invariant-loop-index
invariant-loop-index l = list_all (λ side. is_on_or_left side l.point) (sides_to (first_of l.ring) (drop l.index l.ring)) ≡ list_all (λ side. is_on_or_left side l.point) (sides l.ring)
