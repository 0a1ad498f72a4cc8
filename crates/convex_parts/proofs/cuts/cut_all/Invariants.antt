use Rattle.std.proofs.Common.{◌≡◌, ◌≤◌, vec_len}
use Rattle.std.specs.Prelude.{ℤ, ◌+ℤ◌}
use Rattle.plane.specs.declared.point.Point.{Point}
use Rattle.convex_parts.specs.Paths.{along, AddsOnLines}
use Rattle.convex_parts.specs.Regions.{around_parts}
use Rattle.convex_parts.specs.declared.faults.TheConstants.{PART_LIMIT}
use Rattle.convex_parts.proofs.cuts.cut_all.Given as goal

abbrev pub invariant-loop-ring : goal.invariant-loop-ring
invariant-loop-ring g l = record {
  adds_up : (f : Point → Point → ℤ) → AddsOnLines f → around_parts f l.parts.items +ℤ along f l.ring.items ≡ along f l.initial.ring.items;
  within : vec_len l.parts ≤ PART_LIMIT;
}

abbrev pub decreases-loop-ring : goal.decreases-loop-ring
decreases-loop-ring g l = vec_len l.ring
