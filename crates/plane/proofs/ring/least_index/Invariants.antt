use Rattle.std.specs.Prelude.{◌≡◌, ◌+◌, drop}
use Rattle.std.specs.List.{position_or_len}
use Rattle.plane.specs.Rings.{is_least}
use Rattle.plane.proofs.ring.least_index.Given as goal

abbrev pub invariant-loop-index : goal.invariant-loop-index
invariant-loop-index l = l.index + position_or_len (is_least l.ring) (drop l.index l.ring) ≡ position_or_len (is_least l.ring) l.ring
