use Rattle.std.proofs.Common.{◌≡◌, take}
use Rattle.std.specs.Prelude.{ℤ, pos, ◌+ℤ◌, map}
use Rattle.plane.specs.declared.point.Point.{Point}
use Rattle.convex_parts.specs.Paths.{AddsOnLines}
use Rattle.convex_parts.specs.Regions.{along_all, around_all}
use Rattle.convex_parts.proofs.regions.holes_of.Given as goal

abbrev pub invariant-loop-hole : goal.invariant-loop-hole
invariant-loop-hole g l = (f : Point → Point → ℤ) → AddsOnLines f
    → along_all f (map (λ ring. ring.items) l.holes.items) +ℤ around_all f (map (λ ring. ring.items) (take l.hole-index l.listed)) ≡ pos 0
