-- Frames: the extents of shapes.
use Rattle.std.specs.Prelude.{List, [], ◌∷◌, ℤ, pos, ◌-ℤ◌, ◌≤ℤ◌}
use Rattle.std.specs.Int.{int_min, int_max}
use Rattle.plane.specs.Coordinates.{IsCoordinate}
use Rattle.plane.specs.Points.{origin}
use Rattle.plane.specs.declared.point.Point.{Point}
use Rattle.plane.specs.declared.point.TheConstants.{LIMIT}

-- from x0 to x1 and from y0 to y1, both ends included
pub record Extent : Type 0 where
  pub x0 : ℤ
  pub y0 : ℤ
  pub x1 : ℤ
  pub y1 : ℤ

-- the ends are in order and in range
pub record IsFrame (e : Extent) : Type 0 where
  pub x0_in_range : IsCoordinate e.x0
  pub y0_in_range : IsCoordinate e.y0
  pub x1_in_range : IsCoordinate e.x1
  pub y1_in_range : IsCoordinate e.y1
  pub x_order : e.x0 ≤ℤ e.x1
  pub y_order : e.y0 ≤ℤ e.y1

-- the point alone
abbrev pub point_extent : Point → Extent
point_extent p = record { x0 = p.x; y0 = p.y; x1 = p.x; y1 = p.y }

-- the least extent that contains both
abbrev pub joined : Extent → Extent → Extent
joined e f = record {
  x0 = int_min e.x0 f.x0;
  y0 = int_min e.y0 f.y0;
  x1 = int_max e.x1 f.x1;
  y1 = int_max e.y1 f.y1;
}

-- the least extent that contains all the points, at least one
abbrev pub extent_of : List Point → Extent
extent_of [] = point_extent origin
extent_of (p ∷ []) = point_extent p
extent_of (p ∷ q ∷ rest) = joined (point_extent p) (extent_of (q ∷ rest))

-- all points in range
abbrev pub whole_extent : Extent
whole_extent = record { x0 = pos 0 -ℤ LIMIT; y0 = pos 0 -ℤ LIMIT; x1 = LIMIT; y1 = LIMIT }

-- two intervals, each with its ends in order, have a common number
pub record Overlap (low high other_low other_high : ℤ) : Type 0 where
  pub below_high : low ≤ℤ other_high
  pub above_low : other_low ≤ℤ high

-- the first interval contains the second
pub record Spans (low high other_low other_high : ℤ) : Type 0 where
  pub low_below : low ≤ℤ other_low
  pub high_above : other_high ≤ℤ high
