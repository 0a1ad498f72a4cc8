use Rattle.std.proofs.Common.{◌≡◌, drop, map}
use Rattle.json.specs.Value.{items_view}
use Rattle.geojson.specs.Paths.{path_view}
use Rattle.geojson.specs.Reading.{path_at, list_from, with_all}
use Rattle.geojson.proofs.reading.put_each_path.Given as goal

abbrev pub invariant-loop-index : goal.invariant-loop-index
invariant-loop-index g l =
    with_all (map path_view l.fn.all.items) (list_from (path_at l.grid l.layout) 0 (items_view l.items)) ≡ with_all (map path_view l.all.items) (list_from (path_at l.grid l.layout) l.index (items_view (drop l.index l.items)))
