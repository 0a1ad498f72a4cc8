use Rattle.std.specs.Prelude.{◌≡◌, drop}
use Rattle.std.specs.List.{list_all}
use Rattle.plane.specs.Rings.{is_on_line, is_flat, sides_to, first_of}
use Rattle.plane.proofs.ring.is_flat.Given as goal

abbrev pub invariant-loop-index : goal.invariant-loop-index
invariant-loop-index l = list_all (λ side. list_all (is_on_line side) l.ring) (sides_to (first_of l.ring) (drop l.index l.ring)) ≡ is_flat l.ring
