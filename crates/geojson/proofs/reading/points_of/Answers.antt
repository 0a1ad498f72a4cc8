use Rattle.std.proofs.Common.{sym}
use Rattle.geojson.specs.Reading.{point_at}
use Rattle.geojson.proofs.Lists.{list_more, list_told_plain, list_end}
use Rattle.geojson.proofs.reading.points_of.Goals as goal

pub returns-in-Err : goal.returns-in-Err
returns-in-Err g c =
    list_told_plain (point_at c.args.grid.now) c.args.items.now c.loop-index.points.items _ c.loop-index.index c.index-items-index.result c.in-Err.fault c.loop-index-test.true c.index-items-index.is c.loop-index.invariant (sym c.in-Err.ensures)

pub loop-index-preserved : goal.loop-index-preserved
loop-index-preserved g c =
    rw c.in_ok-try_push-in-Ok.ensures.items
    (list_more (point_at c.args.grid.now) c.args.items.now c.loop-index.points.items _ c.loop-index.index c.index-items-index.result c.in-Ok.point c.loop-index-test.true c.index-items-index.is c.loop-index.invariant (sym c.in-Ok.ensures))

pub returns : goal.returns
returns g c =
    list_end (point_at c.args.grid.now) c.args.items.now c.loop-index.points.items _ c.loop-index.index c.loop-index-test.false c.loop-index.invariant
