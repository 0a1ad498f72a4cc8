-- The rows of a shape, the fraction points that lie in it, and meeting.
use Rattle.std.specs.Prelude.{List, [], ◌∷◌, ◌++◌, All, map, ℤ, pos, negsuc, ◌+ℤ◌, ◌-ℤ◌, ◌*ℤ◌, neg_ℤ, ◌≤ℤ◌, ◌<ℤ◌}
use Rattle.plane.specs.Extents.{Extent, IsFrame, point_extent, extent_of}
use Rattle.plane.specs.Rings.{sides}
use Rattle.plane.specs.declared.rows.Row.{Row}
use Rattle.plane.specs.declared.point.Point.{Point}

-- the fraction point x/w, y/w, with w above 0, satisfies the row a x + b y ≤ c
abbrev pub Satisfies : ℤ → ℤ → ℤ → Row → Type 0
Satisfies x y w row = (row.a *ℤ x +ℤ row.b *ℤ y) ≤ℤ (row.c *ℤ w)

-- the four rows of a frame
abbrev pub frame_rows : Extent → List Row
frame_rows e =
    record { a = pos 1; b = pos 0; c = e.x1 }
    ∷ record { a = negsuc 0; b = pos 0; c = neg_ℤ e.x0 }
    ∷ record { a = pos 0; b = pos 1; c = e.y1 }
    ∷ record { a = pos 0; b = negsuc 0; c = neg_ℤ e.y0 }
    ∷ []

-- the closed half plane left of the directed line from p to q
abbrev pub edge_row : Point × Point → Row
edge_row side =
    let dx = side.1.x -ℤ side.0.x in
    let dy = side.1.y -ℤ side.0.y in
    record { a = dy; b = neg_ℤ dx; c = dy *ℤ side.0.x -ℤ dx *ℤ side.0.y }

abbrev pub negated : Row → Row
negated row = record { a = neg_ℤ row.a; b = neg_ℤ row.b; c = neg_ℤ row.c }

-- no rows for a point, the line of a segment from both sides, one row for each side of a polygon
abbrev pub edge_rows : List Point → List Row
edge_rows [] = []
edge_rows (p ∷ []) = []
edge_rows (p ∷ q ∷ []) = edge_row (p, q) ∷ negated (edge_row (p, q)) ∷ []
edge_rows (p ∷ q ∷ r ∷ rest) = map edge_row (sides (p ∷ q ∷ r ∷ rest))

-- the rows of the shape with these corners
abbrev pub rows_of : List Point → List Row
rows_of corners = frame_rows (extent_of corners) ++ edge_rows corners

-- the fraction point x/w, y/w lies in the shape with these corners
abbrev pub LiesIn : ℤ → ℤ → ℤ → List Point → Type 0
LiesIn x y w corners = All (Satisfies x y w) (rows_of corners)

-- some fraction point satisfies both lists of rows
pub record HaveCommonPoint (rows others : List Row) : Type 0 where
  pub x : ℤ
  pub y : ℤ
  pub w : ℤ
  pub above_zero : pos 0 <ℤ w
  pub in_first : All (Satisfies x y w) rows
  pub in_second : All (Satisfies x y w) others

-- some fraction point lies in both shapes
abbrev pub Meet : List Point → List Point → Type 0
Meet first second = HaveCommonPoint (rows_of first) (rows_of second)

-- the same for frames, by their four rows
abbrev pub FramesMeet : Extent → Extent → Type 0
FramesMeet first second = HaveCommonPoint (frame_rows first) (frame_rows second)

-- each fraction point of the second frame lies in the first
abbrev pub Covers : Extent → Extent → Type 0
Covers first second = (x y w : ℤ) → pos 0 <ℤ w → All (Satisfies x y w) (frame_rows second)
    → All (Satisfies x y w) (frame_rows first)

-- the result covers both extents, and each frame that covers both covers it
pub record IsLeastCover (result first second : Extent) : Type 0 where
  pub covers_first : Covers result first
  pub covers_second : Covers result second
  pub least : (e : Extent) → IsFrame e → Covers e first → Covers e second → Covers e result

-- the result covers each of the points, and each frame that covers them all covers it
pub record IsLeastFrame (result : Extent) (points : List Point) : Type 0 where
  pub covers : All (λ p. Covers result (point_extent p)) points
  pub least : (e : Extent) → IsFrame e → All (λ p. Covers e (point_extent p)) points
      → Covers e result
