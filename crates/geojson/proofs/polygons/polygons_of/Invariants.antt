use Rattle.std.proofs.Common.{◌≡◌, drop, map}
use Rattle.json.specs.Value.{items_view}
use Rattle.geojson.specs.Given.{joined, polygon_at}
use Rattle.geojson.specs.Paths.{path_view}
use Rattle.geojson.specs.Reading.{list_from, with_all}
use Rattle.geojson.proofs.polygons.polygons_of.Given as goal

abbrev pub invariant-loop-index : goal.invariant-loop-index
invariant-loop-index g l =
    joined (list_from (polygon_at l.grid) 0 (items_view l.items)) ≡ with_all (map path_view l.all.items) (joined (list_from (polygon_at l.grid) l.index (items_view (drop l.index l.items))))
