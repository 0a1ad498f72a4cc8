-- What is told of a fault holds of what follows from it.
use Rattle.std.proofs.Common.{◌≡◌, Bool, true, false, Ok, Err, sym, ap, ◌∙◌}
use Rattle.std.specs.Bool.{MatchBool, ⊤}
use Rattle.json.specs.Json.{Json}
use Rattle.grid.specs.declared.grids.Grid.{Grid}
use Rattle.geojson.specs.declared.faults.CoordinatesFault.{CoordinatesFault}
use Rattle.geojson.specs.declared.faults.FeatureFault.{FeatureFault}
use Rattle.geojson.specs.declared.geometries.Role.TheVariants as roles
use Rattle.geojson.specs.declared.given.Kind.{Kind}
use Rattle.geojson.specs.declared.given.Said.{Said}
use Rattle.geojson.specs.declared.given.Wished.{Wished}
use Rattle.geojson.specs.Faults.{is_memory, ◌>>=◌}
use Rattle.geojson.specs.Reading.{points_in}
use Rattle.geojson.specs.Given.{one_path, line_in, coordinates_in, coordinates_member, in_member, geometry_in, geometry_of, said_in, nothing_said, with_paths, whole_feature, bare_in}
use Rattle.geojson.proofs.Lists.{go-told}

-- what is known exactly is told
pub exact_told : (b : Bool) (P : Type 0) → P → MatchBool b ⊤ P
exact_told true P p = tt
exact_told false P p = p

-- a fault of a line's points
pub line_fault : (grid : Grid) (j : Json) (fault : CoordinatesFault) → MatchBool (is_memory fault.cause) ⊤ (points_in grid j ≡ Err fault)
    → MatchBool (is_memory fault.cause) ⊤ (line_in grid j ≡ Err fault)
line_fault grid j fault told =
    go-told (is_memory fault.cause) (points_in grid j ≡ Err fault) (line_in grid j ≡ Err fault) (λ e. ap (one_path roles.Line) e) told

-- a fault of a geometry's coordinates
pub listed_fault : (grid : Grid) (bare : Bool) (kind : Kind) (j : Json) (fault : CoordinatesFault) → MatchBool (is_memory fault.cause) ⊤ (coordinates_in grid kind j ≡ Err fault)
    → MatchBool (is_memory fault.cause) ⊤ (in_member (coordinates_member bare) (coordinates_in grid kind j) ≡ Err (record { cause = fault.cause; member = coordinates_member bare; spot = fault.spot }))
listed_fault grid bare kind j fault told =
    go-told (is_memory fault.cause) (coordinates_in grid kind j ≡ Err fault) (in_member (coordinates_member bare) (coordinates_in grid kind j) ≡ Err (record { cause = fault.cause; member = coordinates_member bare; spot = fault.spot }))
    (λ e. ap (in_member (coordinates_member bare)) e) told

-- a fault of a feature's geometry
pub feature_fault : (grid : Grid) (wished : Wished) (j : Json) (said : Said) (fault : FeatureFault) → Ok said ≡ said_in wished j → MatchBool (is_memory fault.cause) ⊤ (geometry_of grid j ≡ Err fault)
    → MatchBool (is_memory fault.cause) ⊤ (whole_feature grid wished j ≡ Err fault)
feature_fault grid wished j said fault is told =
    go-told (is_memory fault.cause) (geometry_of grid j ≡ Err fault) (whole_feature grid wished j ≡ Err fault)
    (λ e. ap (λ r. r >>= λ s. with_paths s (geometry_of grid j)) (sym is) ∙ ap (with_paths said) e) told

-- a fault of a geometry by itself
pub bare_fault : (grid : Grid) (j : Json) (fault : FeatureFault) → MatchBool (is_memory fault.cause) ⊤ (geometry_in grid true j ≡ Err fault)
    → MatchBool (is_memory fault.cause) ⊤ (bare_in grid j ≡ Err fault)
bare_fault grid j fault told =
    go-told (is_memory fault.cause) (geometry_in grid true j ≡ Err fault) (bare_in grid j ≡ Err fault) (λ e. ap (with_paths nothing_said) e) told
