-- The window of a box.
use Rattle.std.specs.Prelude.{ℤ, pos, ◌-ℤ◌, ◌||◌, Bool, int_lt, List, [], ◌∷◌, Option, None, Some, Result, Ok, Err, if◌then◌else◌}
use Rattle.std.specs.Ordering.{int_eq}
use Rattle.std.specs.Int.{int_min, int_max}
use Rattle.plane.specs.Canonical.{point_of, segment_of, polygon_of}
use Rattle.plane.specs.declared.fault.ShapeFault.{ShapeFault}
use Rattle.plane.specs.declared.point.Point.{Point}
use Rattle.plane.specs.declared.point.TheConstants.{LIMIT}
use Rattle.map_asks.specs.declared.windows.Bounds.{Bounds}
use Rattle.map_asks.specs.declared.windows.Window.{Window}
use Rattle.map_asks.specs.declared.windows.Window.TheVariants.{Nothing, Shape}

abbrev pub corner : ℤ → ℤ → Point
corner x y = record { x = x; y = y }

unfoldable pub box_point : Bounds → Result (List Point) ShapeFault
box_point b = point_of (corner b.west b.south)

unfoldable pub box_segment : Bounds → Result (List Point) ShapeFault
box_segment b = segment_of (corner b.west b.south) (corner b.east b.north)

unfoldable pub box_polygon : Bounds → Result (List Point) ShapeFault
box_polygon b =
    polygon_of (corner b.west b.south ∷ corner b.east b.south ∷ corner b.east b.north
    ∷ corner b.west b.north ∷ corner b.west b.south ∷ [])

-- the shape of a box without width, and of one with some
abbrev pub thin_shape : Bounds → Result (List Point) ShapeFault
thin_shape b = if int_eq b.south b.north then box_point b else box_segment b

abbrev pub wide_shape : Bounds → Result (List Point) ShapeFault
wide_shape b = if int_eq b.south b.north then box_segment b else box_polygon b

-- the shape of the corners of a box
abbrev pub box_shape : Bounds → Result (List Point) ShapeFault
box_shape b = if int_eq b.west b.east then thin_shape b else wide_shape b

-- a bound is behind the opposite one
abbrev pub is_crossed : Bounds → Bool
is_crossed b = int_lt b.east b.west || int_lt b.north b.south

-- without what is beyond the grid
abbrev pub clipped : Bounds → Bounds
clipped b = record {
  west = int_max b.west (pos 0 -ℤ LIMIT);
  south = int_max b.south (pos 0 -ℤ LIMIT);
  east = int_min b.east LIMIT;
  north = int_min b.north LIMIT;
}

abbrev pub shape_window : Result (List Point) ShapeFault → Option Window
shape_window (Ok shape) = Some (Shape shape)
shape_window (Err fault) = None

-- the window of a box within the grid; of one beyond it nothing is left
abbrev pub window_in : Bounds → Option Window
window_in b = if is_crossed b then Some Nothing else shape_window (box_shape b)

-- the window of a box, where its bounds are in order
abbrev pub window_of : Bounds → Option Window
window_of b = if is_crossed b then None else window_in (clipped b)

-- the corners of a box, each once: from the south west on, counter-clockwise
abbrev pub thin_corners : Bounds → List Point
thin_corners b =
    if int_eq b.south b.north then corner b.west b.south ∷ []
    else corner b.west b.south ∷ corner b.east b.north ∷ []

abbrev pub wide_corners : Bounds → List Point
wide_corners b =
    if int_eq b.south b.north then corner b.west b.south ∷ corner b.east b.north ∷ []
    else corner b.west b.south ∷ corner b.east b.south ∷ corner b.east b.north
    ∷ corner b.west b.north ∷ []

abbrev pub box_corners : Bounds → List Point
box_corners b = if int_eq b.west b.east then thin_corners b else wide_corners b
