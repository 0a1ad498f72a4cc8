-- The coordinates of a geometry's value are read as its points.
use Rattle.std.proofs.Common.{◌≡◌, ℕ, suc, ℤ, List, [], ◌∷◌, Ok, All, refl, ap, ◌∙◌}
use Rattle.std.proofs.lemmas.List.Elements.{All-head, All-tail}
use Rattle.json.specs.Json.{number, array}
use Rattle.plane.specs.declared.point.Point.{Point}
use Rattle.plane.specs.Coordinates.{IsCoordinate}
use Rattle.plane.specs.Points.{IsInRange}
use Rattle.grid.specs.declared.grids.Axis.{Axis}
use Rattle.grid.specs.declared.grids.Axis.TheVariants.{X, Y}
use Rattle.grid.specs.declared.grids.Grid.{Grid}
use Rattle.grid.specs.Printing.{coordinate_text}
use Rattle.grid.proofs.RoundTrip.{text_is_read}
use Rattle.geojson.specs.declared.geometries.Layout.TheVariants.{Rings}
use Rattle.geojson.specs.declared.geometries.Role.TheVariants.{Outer}
use Rattle.geojson.specs.Faults.{in_point, in_path, ◌>>=◌}
use Rattle.geojson.specs.Reading.{number_cause, coordinate_in, position_in, point_at, list_from, with_front, with_role, points_in, paths_in}
use Rattle.geojson.specs.Trees.{position_tree, positions, ring_items}

coordinate_read : (grid : Grid) (axis : Axis) (n : ℤ) → IsCoordinate n → coordinate_in grid axis (number (coordinate_text grid axis n)) ≡ Ok n
unfolding coordinate_in
coordinate_read grid axis n h = ap number_cause (text_is_read grid axis n h)

pub position_read : (grid : Grid) (p : Point) → IsInRange p → position_in grid (position_tree grid p) ≡ Ok p
unfolding position_in
position_read grid p h = rw (coordinate_read grid X p.x h.x_in_range, coordinate_read grid Y p.y h.y_in_range) refl

list_read : (grid : Grid) (n : ℕ) (ps : List Point) → All IsInRange ps → list_from (point_at grid) n (positions grid ps) ≡ Ok ps
unfolding list_from
list_read grid n [] h = refl
list_read grid n (p ∷ ps) h =
    ap (λ r. in_point n r >>= λ x. with_front x (list_from (point_at grid) (suc n) (positions grid ps))) (position_read grid p (All-head IsInRange p ps h))
    ∙ ap (with_front p) (list_read grid (suc n) ps (All-tail IsInRange p ps h))

pub points_read : (grid : Grid) (ps : List Point) → All IsInRange ps → points_in grid (array (positions grid ps)) ≡ Ok ps
points_read grid ps h = list_read grid 0 ps h

pub ring_read : (grid : Grid) (ps : List Point) → All IsInRange ps → paths_in grid Rings (array (ring_items grid ps)) ≡ Ok ((Outer, ps) ∷ [])
unfolding list_from
ring_read grid ps h =
    ap (λ r. in_path 0 (with_role Outer r) >>= λ x. with_front x (Ok [])) (points_read grid ps h)
