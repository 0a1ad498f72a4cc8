-- The coordinates of a geometry, read from a JSON value, or their first fault with its place.
use Rattle.std.specs.Prelude.{ℕ, zero, suc, ℤ, List, [], ◌∷◌, ◌++◌, Option, Some, None, Result, Ok, Err}
use Rattle.json.specs.Find.{at, as_array, as_number}
use Rattle.json.specs.Json.{Json, Items, no_items, item}
use Rattle.plane.specs.declared.point.Point.{Point}
use Rattle.grid.specs.declared.faults.NumberFault.{NumberFault}
use Rattle.grid.specs.declared.grids.Axis.{Axis}
use Rattle.grid.specs.declared.grids.Axis.TheVariants.{X, Y}
use Rattle.grid.specs.declared.grids.Grid.{Grid}
use Rattle.grid.specs.Grids.{coordinate_of}
use Rattle.geojson.specs.declared.faults.Cause.{Cause}
use Rattle.geojson.specs.declared.faults.Cause.TheVariants.{Form, Number}
use Rattle.geojson.specs.declared.faults.CoordinatesFault.{CoordinatesFault}
use Rattle.geojson.specs.declared.geometries.Role.{Role}
use Rattle.geojson.specs.declared.geometries.Role.TheVariants.{Line, Outer, Hole}
use Rattle.geojson.specs.declared.geometries.Layout.{Layout}
use Rattle.geojson.specs.declared.geometries.Layout.TheVariants.{Lines, Rings}
use Rattle.geojson.specs.Faults.{fault_here, at_axis, in_point, in_path, ◌>>=◌}

-- a number's text as a coordinate
abbrev pub number_cause : Result ℤ NumberFault → Result ℤ Cause
number_cause (Ok n) = Ok n
number_cause (Err fault) = Err (Number fault)

abbrev pub text_coordinate : Grid → Axis → Option (List ℕ) → Result ℤ Cause
text_coordinate grid axis None = Err Form
text_coordinate grid axis (Some text) = number_cause (coordinate_of grid axis text)

-- the coordinate that a value is
unfoldable pub coordinate_in : Grid → Axis → Json → Result ℤ Cause
coordinate_in grid axis j = text_coordinate grid axis (as_number j)

abbrev pub point_of : ℤ → ℤ → Result Point CoordinatesFault
point_of x y = Ok (record { x = x; y = y })

abbrev pub position_of : Grid → Option Json → Option Json → Result Point CoordinatesFault
position_of grid None y = Err (fault_here Form)
position_of grid (Some x) None = Err (fault_here Form)
position_of grid (Some x) (Some y) =
    at_axis 0 (coordinate_in grid X x) >>= λ a. at_axis 1 (coordinate_in grid Y y) >>= λ b. point_of a b

-- a position: an array of at least two numbers; a height behind them is not looked at
unfoldable pub position_in : Grid → Json → Result Point CoordinatesFault
position_in grid j = position_of grid (at 0 j) (at 1 j)

abbrev pub with_front : {T F : Type 0} → T → Result (List T) F → Result (List T) F
with_front x (Ok xs) = Ok (x ∷ xs)
with_front x (Err fault) = Err fault

-- these values, and behind them those of a reading
abbrev pub with_all : {T F : Type 0} → List T → Result (List T) F → Result (List T) F
with_all xs (Ok ys) = Ok (xs ++ ys)
with_all xs (Err fault) = Err fault

-- the values of an array, each read with its index, the first of which is `n`
unfoldable pub list_from : {T F : Type 0} → (ℕ → Json → Result T F) → ℕ → Items
    → Result (List T) F
list_from read n no_items = Ok []
list_from read n (item j js) = read n j >>= λ x. with_front x (list_from read (suc n) js)

-- the point of the position at an index
abbrev pub point_at : Grid → ℕ → Json → Result Point CoordinatesFault
point_at grid n j = in_point n (position_in grid j)

-- the points of an array of positions
abbrev pub points_of_array : Grid → Option Items → Result (List Point) CoordinatesFault
points_of_array grid None = Err (fault_here Form)
points_of_array grid (Some items) = list_from (point_at grid) 0 items

abbrev pub points_in : Grid → Json → Result (List Point) CoordinatesFault
points_in grid j = points_of_array grid (as_array j)

-- a path of a geometry: what it is, and its points
abbrev pub PathOf : Type 0
PathOf = Role × List Point

-- what the path at an index is
abbrev pub role_at : Layout → ℕ → Role
role_at Lines n = Line
role_at Rings zero = Outer
role_at Rings (suc n) = Hole

abbrev pub with_role : Role → Result (List Point) CoordinatesFault → Result PathOf CoordinatesFault
with_role what (Ok ps) = Ok (what, ps)
with_role what (Err fault) = Err fault

-- the path at an index
abbrev pub path_at : Grid → Layout → ℕ → Json → Result PathOf CoordinatesFault
path_at grid layout n j = in_path n (with_role (role_at layout n) (points_in grid j))

-- the paths of an array of arrays of positions
abbrev pub paths_of_array : Grid → Layout → Option Items → Result (List PathOf) CoordinatesFault
paths_of_array grid layout None = Err (fault_here Form)
paths_of_array grid layout (Some items) = list_from (path_at grid layout) 0 items

abbrev pub paths_in : Grid → Layout → Json → Result (List PathOf) CoordinatesFault
paths_in grid layout j = paths_of_array grid layout (as_array j)
