-- Rings of convex polygons, counter-clockwise.
use Rattle.std.specs.Prelude.{◌≡◌, ◌<◌, ◌≤◌, List, [], ◌∷◌, length, All, slice_index_or, pos, ◌≤ℤ◌, ◌<ℤ◌}
use Rattle.plane.specs.Points.{IsInRange}
use Rattle.plane.specs.Rings.{turn, sides}
use Rattle.plane.specs.declared.point.Point.{Point}
use Rattle.plane.specs.declared.ring.TheConstants.{LISTED_LIMIT}

-- no two points of the list are equal
abbrev pub Differ : List Point → Type 0
Differ [] = Unit {0}
Differ (p ∷ rest) = All (λ q. p ≡ q → ⊥) rest × Differ rest

-- any three of the points are on one line
abbrev pub AreOnOneLine : List Point → Type 0
AreOnOneLine points = All (λ p. All (λ q. All (λ r. turn p q r ≡ pos 0) points) points) points

-- each of the points is on or left of each of the sides
abbrev pub AreOnOrLeft : List (Point × Point) → List Point → Type 0
AreOnOrLeft ways points = All (λ side. All (λ r. pos 0 ≤ℤ turn side.0 side.1 r) points) ways

-- the path turns left at each of the points; it comes from `before` and goes on to `after`
abbrev pub TurnsLeft : Point → Point → List Point → Type 0
TurnsLeft before after [] = Unit {0}
TurnsLeft before after (p ∷ rest) = (pos 0 <ℤ turn before p (slice_index_or rest 0 after))
    × TurnsLeft p after rest

-- at least 3 points in range, few enough to be listed with the closing one, distinct, not all on
-- one line, each on or left of every side
pub record IsConvexRing (ring : List Point) : Type 0 where
  pub in_range : All IsInRange ring
  pub at_least : 3 ≤ length ring
  pub at_most : length ring < LISTED_LIMIT
  pub differ : Differ ring
  pub not_flat : AreOnOneLine ring → ⊥
  pub left : AreOnOrLeft (sides ring) ring
