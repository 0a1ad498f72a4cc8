use Rattle.std.proofs.Common.{map}
use Rattle.std.proofs.lemmas.List.{map_push}
use Rattle.geojson.specs.Faults.{is_memory}
use Rattle.geojson.specs.Paths.{path_view}
use Rattle.geojson.specs.Reading.{path_at}
use Rattle.geojson.proofs.Lists.{list_more, list_told, list_end}
use Rattle.geojson.proofs.reading.put_each_path.Goals as goal

pub returns-in-Err : goal.returns-in-Err
returns-in-Err g c =
    list_told (is_memory c.in-Err.fault.cause) (path_at c.args.grid.now c.args.layout) c.args.items.now (map path_view c.loop-index.all.items) _ c.loop-index.index c.index-items-index.result c.in-Err.fault c.loop-index-test.true c.index-items-index.is c.loop-index.invariant c.in-Err.ensures

pub loop-index-preserved : goal.loop-index-preserved
loop-index-preserved g c =
    rw (c.in_ok-try_push-in-Ok.ensures.items, map_push path_view c.loop-index.all.items c.in-Ok.path)
    (list_more (path_at c.args.grid.now c.args.layout) c.args.items.now (map path_view c.loop-index.all.items) _ c.loop-index.index c.index-items-index.result (path_view c.in-Ok.path) c.loop-index-test.true c.index-items-index.is c.loop-index.invariant c.in-Ok.ensures)

pub returns : goal.returns
returns g c =
    list_end (path_at c.args.grid.now c.args.layout) c.args.items.now (map path_view c.loop-index.all.items) _ c.loop-index.index c.loop-index-test.false c.loop-index.invariant
