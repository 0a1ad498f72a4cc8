-- The canonical shape of listed points, or its first fault.
use Rattle.std.specs.Prelude.{◌≡◌, ◌-◌, ◌≤◌, not, List, [], ◌∷◌, ◌++◌, length, take, reverse, All, if◌then◌else◌, nat_lt, Result, Ok, Err}
use Rattle.std.specs.List.{list_all}
use Rattle.plane.specs.Convex.{AreOnOrLeft, TurnsLeft}
use Rattle.plane.specs.Points.{IsInRange, IsFirstLeast, is_in_range, is_same, is_before}
use Rattle.plane.specs.Rings.{first_of, last_of, sides, has_repeat, is_flat, goes_left, from_least, turning_points}
use Rattle.plane.specs.declared.point.Point.{Point}
use Rattle.plane.specs.declared.fault.ShapeFault.{ShapeFault}
use Rattle.plane.specs.declared.fault.ShapeFault.TheVariants.{OutOfRange, SameEnds, TooManyPoints, TooFew, NotClosed, Repeated, Flat, NotConvex, TooManyCorners}
use Rattle.plane.specs.declared.ring.TheConstants.{LISTED_LIMIT}
use Rattle.plane.specs.declared.shape.TheConstants.{CORNER_LIMIT}

-- a point is itself
abbrev pub point_of : Point → Result (List Point) ShapeFault
point_of p = if is_in_range p then Ok (p ∷ []) else Err OutOfRange

-- a segment's lesser end comes first
abbrev pub in_order : Point → Point → List Point
in_order p q = if is_before q p then q ∷ p ∷ [] else p ∷ q ∷ []

abbrev pub segment_of : Point → Point → Result (List Point) ShapeFault
segment_of p q =
    if list_all is_in_range (p ∷ q ∷ []) then
    (if is_same p q then Err SameEnds else Ok (in_order p q))
    else Err OutOfRange

-- a polygon's corners are where the ring turns, counter-clockwise from the least one on
abbrev pub corners_of : List Point → Result (List Point) ShapeFault
corners_of ring =
    let corners = turning_points (from_least ring) in
    if nat_lt CORNER_LIMIT (length corners) then Err TooManyCorners else Ok corners

-- a ring's points are distinct, not on one line, and in one direction left of or on every side
abbrev pub ring_of : List Point → Result (List Point) ShapeFault
ring_of ring =
    if has_repeat ring then Err Repeated
    else (if is_flat ring then Err Flat
    else (if goes_left ring then corners_of ring
    else (if goes_left (reverse ring) then corners_of (reverse ring)
    else Err NotConvex)))

-- a polygon's ring is listed with its closing point
abbrev pub polygon_of : List Point → Result (List Point) ShapeFault
polygon_of listed =
    if not (list_all is_in_range listed) then Err OutOfRange
    else (if nat_lt LISTED_LIMIT (length listed) then Err TooManyPoints
    else (if nat_lt (length listed) 4 then Err TooFew
    else (if not (is_same (first_of listed) (last_of listed)) then Err NotClosed
    else ring_of (take (length listed - 1) listed))))

-- the canonical shape of the points that list these corners: a ring lists its first corner again
abbrev pub listed_shape : List Point → Result (List Point) ShapeFault
listed_shape [] = Err TooFew
listed_shape (p ∷ []) = point_of p
listed_shape (p ∷ q ∷ []) = segment_of p q
listed_shape (p ∷ q ∷ r ∷ rest) = polygon_of ((p ∷ q ∷ r ∷ rest) ++ p ∷ [])

-- The invariant of a shape's corners: 1 to 16 in range, the least one first; listing them gives
-- that very shape; each is on or left of every side; and three or more turn left at each of them.
pub record IsCanonical (corners : List Point) : Type 0 where
  pub in_range : All IsInRange corners
  pub not_empty : 1 ≤ length corners
  pub at_most : length corners ≤ CORNER_LIMIT
  pub first_least : IsFirstLeast corners
  pub listed : listed_shape corners ≡ Ok corners
  pub left : AreOnOrLeft (sides corners) corners
  pub turn_left : 3 ≤ length corners → TurnsLeft (last_of corners) (first_of corners) corners
