use Rattle.geojson.proofs.Lists.{list_more, list_told, list_end}
use Rattle.map_lists.specs.Faults.{is_memory}
use Rattle.map_lists.specs.Reading.{change_at}
use Rattle.map_lists.proofs.reading.changes_of.Goals as goal

pub returns-in-Err : goal.returns-in-Err
returns-in-Err g c =
    list_told (is_memory c.in-Err.fault) (change_at c.args.grid.now) c.args.items.now c.loop-index.changes.items _ c.loop-index.index c.index-items-index.result c.in-Err.fault c.loop-index-test.true c.index-items-index.is c.loop-index.invariant c.in-Err.ensures

pub loop-index-preserved : goal.loop-index-preserved
loop-index-preserved g c =
    rw c.in_ok-try_push-in-Ok.ensures.items
    (list_more (change_at c.args.grid.now) c.args.items.now c.loop-index.changes.items _ c.loop-index.index c.index-items-index.result c.in-Ok.change c.loop-index-test.true c.index-items-index.is c.loop-index.invariant c.in-Ok.ensures)

pub returns : goal.returns
returns g c =
    list_end (change_at c.args.grid.now) c.args.items.now c.loop-index.changes.items _ c.loop-index.index c.loop-index-test.false c.loop-index.invariant
