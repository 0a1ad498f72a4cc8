-- Rectangles with sides along the axes, and what lies in them.
use Rattle.std.specs.Prelude.{◌≡◌, ℤ, List, [], ◌∷◌, Bool, Contains, ◌≤ℤ◌}
use Rattle.plane.specs.Equality.{same_shape}
use Rattle.plane.specs.Extents.{Extent, extent_of}
use Rattle.plane.specs.declared.point.Point.{Point}

-- the corners of a frame's rectangle, in canonical order
abbrev pub rectangle_of : Extent → List Point
rectangle_of e =
    record { x = e.x0; y = e.y0 }
    ∷ record { x = e.x1; y = e.y0 }
    ∷ record { x = e.x1; y = e.y1 }
    ∷ record { x = e.x0; y = e.y1 }
    ∷ []

-- the number is from `low` to `high`
pub record IsBetween (low number high : ℤ) : Type 0 where
  pub above : low ≤ℤ number
  pub below : number ≤ℤ high

-- the point lies in the frame
pub record IsWithin (p : Point) (e : Extent) : Type 0 where
  pub across : IsBetween e.x0 p.x e.x1
  pub up : IsBetween e.y0 p.y e.y1

-- a corner of the shape lies in the frame
pub record HasCornerIn (corners : List Point) (e : Extent) : Type 0 where
  pub corner : Point
  pub listed : Contains corners corner
  pub within : IsWithin corner e

-- the shape is the rectangle of its frame
abbrev pub is_upright : List Point → Bool
is_upright shape = same_shape shape (rectangle_of (extent_of shape))

-- what a window keeps of its shape
pub record IsPrepared (shape : List Point) (frame : Extent) (upright : Bool) : Type 0 where
  pub framed : frame ≡ extent_of shape
  pub told : upright ≡ is_upright shape
