-- The JSON value of a geometry (RFC 7946, 3.1).
use Rattle.std.specs.Prelude.{ℕ, List, [], ◌∷◌, ◌++◌, codes}
use Rattle.json.specs.Json.{Json, null, number, string, array, object, Items, no_items, item, no_members, member}
use Rattle.plane.specs.declared.point.Point.{Point}
use Rattle.grid.specs.declared.grids.Axis.TheVariants.{X, Y}
use Rattle.grid.specs.declared.grids.Grid.{Grid}
use Rattle.grid.specs.Printing.{coordinate_text}

-- a position: an array of two numbers
abbrev pub position_tree : Grid → Point → Json
position_tree grid p =
    array (item (number (coordinate_text grid X p.x))
    (item (number (coordinate_text grid Y p.y)) no_items))

abbrev pub positions : Grid → List Point → Items
positions grid [] = no_items
positions grid (p ∷ ps) = item (position_tree grid p) (positions grid ps)

-- an object with a type and coordinates
abbrev pub geometry_of : List ℕ → Json → Json
geometry_of name coordinates =
    object (member (codes "type") (string name) (member (codes "coordinates") coordinates no_members))

abbrev pub ring_items : Grid → List Point → Items
ring_items grid ps = item (array (positions grid ps)) no_items

-- the geometry of a shape with these corners; a ring has its first corner again at the end
abbrev pub geometry_tree : Grid → List Point → Json
geometry_tree grid [] = null
geometry_tree grid (p ∷ []) = geometry_of (codes "Point") (position_tree grid p)
geometry_tree grid (p ∷ q ∷ []) =
    geometry_of (codes "LineString") (array (positions grid (p ∷ q ∷ [])))
geometry_tree grid (p ∷ q ∷ r ∷ rest) =
    geometry_of (codes "Polygon") (array (ring_items grid ((p ∷ q ∷ r ∷ rest) ++ p ∷ [])))
