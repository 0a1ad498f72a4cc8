use Rattle.std.proofs.Common.{◌≡◌, drop}
use Rattle.json.specs.Value.{items_view}
use Rattle.geojson.specs.Reading.{list_from, with_all}
use Rattle.map_lists.specs.Reading.{change_at}
use Rattle.map_lists.proofs.reading.changes_of.Given as goal

abbrev pub invariant-loop-index : goal.invariant-loop-index
invariant-loop-index g l =
    list_from (change_at l.grid) 0 (items_view l.items) ≡ with_all l.changes.items (list_from (change_at l.grid) l.index (items_view (drop l.index l.items)))
