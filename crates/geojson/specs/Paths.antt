-- A path as its role and its points, and a geometry as its paths.
use Rattle.std.specs.Prelude.{List, map}
use Rattle.geojson.specs.declared.geometries.Geometry.{Geometry}
use Rattle.geojson.specs.declared.geometries.Path.{Path}
use Rattle.geojson.specs.Reading.{PathOf}

abbrev pub path_view : {A : Type 0} → Path A → PathOf
path_view path = (path.role, path.points.items)

abbrev pub geometry_view : {A : Type 0} → Geometry A → List PathOf
geometry_view geometry = map path_view geometry.paths.items
