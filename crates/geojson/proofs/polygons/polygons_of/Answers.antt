use Rattle.std.proofs.Common.{map}
use Rattle.geojson.specs.Given.{polygon_at}
use Rattle.geojson.specs.Paths.{path_view}
use Rattle.geojson.proofs.Joined.{lists_more, lists_told, lists_end}
use Rattle.geojson.proofs.polygons.polygons_of.Goals as goal

pub returns-in-Err : goal.returns-in-Err
returns-in-Err g c =
    lists_told (polygon_at c.args.grid.now) c.args.items.now (map path_view c.loop-index.all.items) _ c.loop-index.index c.index-items-index.result c.in-Err.fault c.loop-index-test.true c.index-items-index.is c.loop-index.invariant c.in-Err.ensures

pub loop-index-preserved : goal.loop-index-preserved
loop-index-preserved g c =
    lists_more (polygon_at c.args.grid.now) c.args.items.now (map path_view c.loop-index.all.items) (map path_view c.put_polygon.new.all.items) _ c.loop-index.index c.index-items-index.result c.loop-index-test.true c.index-items-index.is c.loop-index.invariant c.in-Ok.ensures

pub returns : goal.returns
returns g c =
    lists_end (polygon_at c.args.grid.now) c.args.items.now (map path_view c.loop-index.all.items) _ c.loop-index.index c.loop-index-test.false c.loop-index.invariant
