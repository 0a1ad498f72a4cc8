use Rattle.std.proofs.Common.{◌≡◌, ◌+◌, ◌-◌, ◌<◌, ◌≤◌, vec_len}
use Rattle.std.specs.Prelude.{ℤ}
use Rattle.plane.specs.declared.point.Point.{Point}
use Rattle.convex_parts.specs.Paths.{along, AddsOnLines}
use Rattle.convex_parts.proofs.rings.drop_straight.Given as goal

abbrev pub invariant-loop-at : goal.invariant-loop-at
invariant-loop-at g l = record {
  adds_up : (f : Point → Point → ℤ) → AddsOnLines f → along f l.ring.items ≡ along f l.initial.ring.items;
  within : 0 < l.at → l.at + 2 ≤ vec_len l.ring;
}

abbrev pub decreases-loop-at : goal.decreases-loop-at
decreases-loop-at g l = vec_len l.ring + vec_len l.ring - l.at
