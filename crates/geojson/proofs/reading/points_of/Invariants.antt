use Rattle.std.proofs.Common.{◌≡◌, drop}
use Rattle.json.specs.Value.{items_view}
use Rattle.geojson.specs.Reading.{point_at, list_from, with_all}
use Rattle.geojson.proofs.reading.points_of.Given as goal

abbrev pub invariant-loop-index : goal.invariant-loop-index
invariant-loop-index g l =
    list_from (point_at l.grid) 0 (items_view l.items) ≡ with_all l.points.items (list_from (point_at l.grid) l.index (items_view (drop l.index l.items)))
