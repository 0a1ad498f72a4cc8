-- The row of a feature.
use Rattle.std.specs.Prelude.{ℕ, List, [], ◌∷◌, ◌++◌, codes, decimal}
use Rattle.std.specs.List.{flat_map}
use Rattle.plane.specs.declared.point.Point.{Point}
use Rattle.features.specs.declared.rows.Feature.{Feature}
use Rattle.grid.specs.declared.grids.Axis.TheVariants.{X, Y}
use Rattle.grid.specs.declared.grids.Grid.{Grid}
use Rattle.grid.specs.Printing.{coordinate_text}

-- two coordinates
abbrev pub pair_text : Grid → Point → List ℕ
pair_text grid p = coordinate_text grid X p.x ++ codes " " ++ coordinate_text grid Y p.y

-- a pair that is not the first
abbrev pub following_text : Grid → Point → List ℕ
following_text grid p = codes ", " ++ pair_text grid p

-- the well-known text of the shape with these corners; a ring has its first corner again at the end
unfoldable pub shape_text : Grid → List Point → List ℕ
shape_text grid [] = []
shape_text grid (p ∷ []) = codes "POINT (" ++ pair_text grid p ++ codes ")"
shape_text grid (p ∷ q ∷ []) =
    codes "LINESTRING (" ++ pair_text grid p ++ following_text grid q ++ codes ")"
shape_text grid (p ∷ q ∷ r ∷ rest) =
    codes "POLYGON ((" ++ pair_text grid p ++ flat_map (following_text grid) (q ∷ r ∷ rest)
    ++ following_text grid p ++ codes "))"

-- the fields before the shape, each with its comma
unfoldable pub fields_text : Feature → List ℕ
fields_text feature =
    decimal feature.id ++ codes "," ++ decimal feature.version ++ codes "," ++ feature.office
    ++ codes "," ++ feature.class ++ codes ","

-- a row: the shape, which has commas, is in quotes
abbrev pub row_text : Grid → Feature → List ℕ
row_text grid feature =
    fields_text feature ++ codes "\"" ++ shape_text grid feature.shape ++ codes "\"\n"
