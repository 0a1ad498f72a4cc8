use Rattle.std.specs.Prelude.{◌≡◌, not, drop}
use Rattle.std.specs.List.{list_all, list_any}
use Rattle.plane.specs.Rings.{is_on_or_left, is_apart, sides_to, first_of}
use Rattle.plane.proofs.ring.is_apart.Given as goal

abbrev pub invariant-loop-index : goal.invariant-loop-index
invariant-loop-index l = list_any (λ side. list_all (λ r. not (is_on_or_left side r)) l.points) (sides_to (first_of l.ring) (drop l.index l.ring)) ≡ is_apart l.ring l.points
