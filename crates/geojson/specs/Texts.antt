-- The text of a geometry and of a feature.
use Rattle.std.specs.Prelude.{ℕ, List, [], ◌∷◌, ◌++◌, codes, decimal}
use Rattle.std.specs.List.{flat_map}
use Rattle.plane.specs.declared.point.Point.{Point}
use Rattle.features.specs.declared.rows.Feature.{Feature}
use Rattle.grid.specs.declared.grids.Axis.TheVariants.{X, Y}
use Rattle.grid.specs.declared.grids.Grid.{Grid}
use Rattle.grid.specs.Printing.{coordinate_text}

-- a position
abbrev pub position_text : Grid → Point → List ℕ
position_text grid p =
    codes "[" ++ coordinate_text grid X p.x ++ codes "," ++ coordinate_text grid Y p.y ++ codes "]"

-- a position that is not the first
abbrev pub following_text : Grid → Point → List ℕ
following_text grid p = codes "," ++ position_text grid p

-- what begins a geometry, up to its coordinates
unfoldable pub point_head : List ℕ
point_head = codes "{\"type\":\"Point\",\"coordinates\":"

unfoldable pub line_head : List ℕ
line_head = codes "{\"type\":\"LineString\",\"coordinates\":["

unfoldable pub ring_head : List ℕ
ring_head = codes "{\"type\":\"Polygon\",\"coordinates\":[["

-- the geometry of a shape with these corners; a ring has its first corner again at the end
unfoldable pub geometry_text : Grid → List Point → List ℕ
geometry_text grid [] = codes "null"
geometry_text grid (p ∷ []) = point_head ++ position_text grid p ++ codes "}"
geometry_text grid (p ∷ q ∷ []) =
    line_head ++ position_text grid p ++ following_text grid q ++ codes "]}"
geometry_text grid (p ∷ q ∷ r ∷ rest) =
    ring_head ++ position_text grid p ++ flat_map (following_text grid) (q ∷ r ∷ rest)
    ++ following_text grid p ++ codes "]]}"

-- the parts of a feature, in order
unfoldable pub id_part : ℕ → List ℕ
id_part id = codes "{\"type\":\"Feature\",\"id\":" ++ decimal id

unfoldable pub geometry_key : List ℕ
geometry_key = codes ",\"geometry\":"

unfoldable pub own_id_part : ℕ → List ℕ
own_id_part id = codes ",\"properties\":{\"id\":" ++ decimal id

unfoldable pub office_part : List ℕ → List ℕ
office_part office = codes ",\"office\":\"" ++ office

unfoldable pub class_part : List ℕ → List ℕ
class_part class = codes "\",\"class\":\"" ++ class

unfoldable pub version_part : ℕ → List ℕ
version_part version = codes "\",\"version\":" ++ decimal version

-- a feature
abbrev pub feature_text : Grid → Feature → List ℕ
feature_text grid feature =
    id_part feature.id ++ geometry_key ++ geometry_text grid feature.shape ++ own_id_part feature.id
    ++ office_part feature.office ++ class_part feature.class ++ version_part feature.version
    ++ codes "}}"
