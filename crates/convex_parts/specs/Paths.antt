-- What adds up along a list of points: a number for each step from one point to the next.
use Rattle.std.specs.Prelude.{◌≡◌, List, [], ◌∷◌, ◌++◌, ℤ, pos, ◌+ℤ◌, ◌-ℤ◌, ◌*ℤ◌}
use Rattle.plane.specs.Rings.{turn}
use Rattle.plane.specs.declared.point.Point.{Point}

-- from a point along the others
abbrev pub from : (Point → Point → ℤ) → Point → List Point → ℤ
from f p [] = pos 0
from f p (q ∷ rest) = f p q +ℤ from f q rest

-- from the first point along the others
abbrev pub along : (Point → Point → ℤ) → List Point → ℤ
along f [] = pos 0
along f (p ∷ rest) = from f p rest

-- the points with the first one again at the end
abbrev pub closed : List Point → List Point
closed [] = []
closed (p ∷ rest) = (p ∷ rest) ++ p ∷ []

-- two steps on one line, forth or back, count as the step from the first point to the last
pub record AddsOnLines (f : Point → Point → ℤ) : Type 0 where
  pub adds : (p q r : Point) → turn p q r ≡ pos 0 → f p q +ℤ f q r ≡ f p r

-- Twice the signed area between the origin and the step. Along a closed list this is twice the area
-- inside, above 0 if the list goes counter-clockwise.
abbrev pub doubled_area : Point → Point → ℤ
doubled_area p q = p.x *ℤ q.y -ℤ p.y *ℤ q.x
