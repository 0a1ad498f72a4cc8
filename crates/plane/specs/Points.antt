-- Points: their range and their order.
use Rattle.std.specs.Prelude.{◌≡◌, Bool, false, ◌&&◌, ◌||◌, List, [], ◌∷◌, All, pos, int_lt}
use Rattle.std.specs.Ordering.{int_eq}
use Rattle.plane.specs.Coordinates.{IsCoordinate, is_coordinate}
use Rattle.plane.specs.declared.point.Point.{Point}

-- both coordinates are in range
pub record IsInRange (p : Point) : Type 0 where
  pub x_in_range : IsCoordinate p.x
  pub y_in_range : IsCoordinate p.y

-- the same, as a test
abbrev pub is_in_range : Point → Bool
is_in_range p = is_coordinate p.x && is_coordinate p.y

abbrev pub origin : Point
origin = record { x = pos 0; y = pos 0 }

-- p and q are equal
abbrev pub is_same : Point → Point → Bool
is_same p q = int_eq p.x q.x && int_eq p.y q.y

-- p has the lesser x, or the same x and the lesser y
abbrev pub is_before : Point → Point → Bool
is_before p q = int_lt p.x q.x || (int_eq p.x q.x && int_lt p.y q.y)

-- none of the points is before the first one
abbrev pub IsFirstLeast : List Point → Type 0
IsFirstLeast [] = Unit {0}
IsFirstLeast (p ∷ rest) = All (λ q. is_before q p ≡ false) rest
