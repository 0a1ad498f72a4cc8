use Rattle.std.proofs.Common.{◌≡◌, vec_len}
use Rattle.std.specs.Prelude.{ℤ, ◌+ℤ◌, map}
use Rattle.plane.specs.declared.point.Point.{Point}
use Rattle.convex_parts.specs.Paths.{along, AddsOnLines}
use Rattle.convex_parts.specs.Regions.{along_all, around_region}
use Rattle.convex_parts.proofs.regions.convex_parts.Given as goal

abbrev pub invariant-loop-hole : goal.invariant-loop-hole
invariant-loop-hole g l = (f : Point → Point → ℤ) → AddsOnLines f
    → along f l.ring.items +ℤ along_all f (map (λ ring. ring.items) l.holes.items) ≡ around_region f (map (λ ring. ring.items) l.rings)

abbrev pub decreases-loop-hole : goal.decreases-loop-hole
decreases-loop-hole g l = vec_len l.holes
