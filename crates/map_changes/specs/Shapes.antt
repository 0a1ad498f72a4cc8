-- The shape that a geometry is.
use Rattle.std.specs.Prelude.{List, [], ◌∷◌, Result, Ok, Err}
use Rattle.plane.specs.Canonical.{point_of, segment_of, polygon_of}
use Rattle.plane.specs.declared.fault.ShapeFault.{ShapeFault}
use Rattle.plane.specs.declared.point.Point.{Point}
use Rattle.geojson.specs.Reading.{PathOf}
use Rattle.geojson.specs.declared.geometries.Role.TheVariants as roles
use Rattle.map_changes.specs.declared.faults.ChangeFault.{ChangeFault}
use Rattle.map_changes.specs.declared.faults.ChangeFault.TheVariants.{Parts, Shape}

-- a shape, or its fault as one of a request
abbrev pub shaped : Result (List Point) ShapeFault → Result (List Point) ChangeFault
shaped (Ok shape) = Ok shape
shaped (Err fault) = Err (Shape fault)

abbrev pub point_shape : List Point → Result (List Point) ChangeFault
point_shape [] = Err Parts
point_shape (p ∷ []) = shaped (point_of p)
point_shape (p ∷ q ∷ more) = Err Parts

-- a line is a shape where it has two points
abbrev pub line_shape : List Point → Result (List Point) ChangeFault
line_shape [] = Err Parts
line_shape (p ∷ []) = Err Parts
line_shape (p ∷ q ∷ []) = shaped (segment_of p q)
line_shape (p ∷ q ∷ r ∷ more) = Err Parts

-- the shape of a path
abbrev pub path_shape : PathOf → Result (List Point) ChangeFault
path_shape (roles.Point, points) = point_shape points
path_shape (roles.Line, points) = line_shape points
path_shape (roles.Outer, points) = shaped (polygon_of points)
path_shape (roles.Hole, points) = Err Parts

-- the one shape that the paths of a geometry are: so one without holes
abbrev pub shape_in : List PathOf → Result (List Point) ChangeFault
shape_in [] = Err Parts
shape_in (path ∷ []) = path_shape path
shape_in (path ∷ other ∷ more) = Err Parts
