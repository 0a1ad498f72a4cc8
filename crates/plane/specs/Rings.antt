-- Rings of points: a ring lists its points in order, each once; the last is followed by the first.
use Rattle.std.specs.Prelude.{◌-◌, Bool, true, false, not, List, [], ◌∷◌, ◌++◌, length, take, drop, slice_index_or, ℤ, pos, ◌-ℤ◌, ◌*ℤ◌, int_le, if◌then◌else◌}
use Rattle.std.specs.List.{list_all, list_any, position_or_len}
use Rattle.std.specs.Ordering.{int_eq}
use Rattle.plane.specs.Points.{origin, is_same, is_before}
use Rattle.plane.specs.declared.point.Point.{Point}

-- twice the signed area of the triangle p, q, r: above 0 if r is left of the directed line from p
-- to q, below 0 if it is right of it, and 0 if the three are on one line
abbrev pub turn : Point → Point → Point → ℤ
turn p q r = (q.x -ℤ p.x) *ℤ (r.y -ℤ p.y) -ℤ (q.y -ℤ p.y) *ℤ (r.x -ℤ p.x)

abbrev pub first_of : List Point → Point
first_of ring = slice_index_or ring 0 origin

abbrev pub last_of : List Point → Point
last_of ring = slice_index_or ring (length ring - 1) origin

-- from each point to the next, and from the last one to `end`
abbrev pub sides_to : Point → List Point → List (Point × Point)
sides_to end [] = []
sides_to end (p ∷ rest) = (p, slice_index_or rest 0 end) ∷ sides_to end rest

-- the sides of a ring: from each point to the next
abbrev pub sides : List Point → List (Point × Point)
sides ring = sides_to (first_of ring) ring

-- the point is on or left of the side's directed line
abbrev pub is_on_or_left : Point × Point → Point → Bool
is_on_or_left side r = int_le (pos 0) (turn side.0 side.1 r)

-- the point is on the line of the side
abbrev pub is_on_line : Point × Point → Point → Bool
is_on_line side r = int_eq (turn side.0 side.1 r) (pos 0)

-- every point of the ring is on or left of every side
abbrev pub goes_left : List Point → Bool
goes_left ring = list_all (λ side. list_all (is_on_or_left side) ring) (sides ring)

-- every point of the ring is on the line of every side
abbrev pub is_flat : List Point → Bool
is_flat ring = list_all (λ side. list_all (is_on_line side) ring) (sides ring)

-- some side of the ring has all the points strictly on its right
abbrev pub is_apart : List Point → List Point → Bool
is_apart ring points = list_any (λ side. list_all (λ r. not (is_on_or_left side r)) points)
    (sides ring)

-- a point occurs twice in the list
abbrev pub has_repeat : List Point → Bool
has_repeat [] = false
has_repeat (p ∷ rest) = if list_any (is_same p) rest then true else has_repeat rest

-- no point of the ring has a lesser x, or the same x and a lesser y
abbrev pub is_least : List Point → Point → Bool
is_least ring p = list_all (λ q. not (is_before q p)) ring

-- the ring, starting at its least point
abbrev pub from_least : List Point → List Point
from_least ring = let at = position_or_len (is_least ring) ring in drop at ring ++ take at ring

-- the points at which the path turns; it comes from `before` and goes on to `after`
abbrev pub turning : Point → Point → List Point → List Point
turning before after [] = []
turning before after (p ∷ rest) =
    if is_on_line (before, p) (slice_index_or rest 0 after) then turning p after rest
    else p ∷ turning p after rest

-- the points at which the ring turns
abbrev pub turning_points : List Point → List Point
turning_points ring = turning (last_of ring) (first_of ring) ring
