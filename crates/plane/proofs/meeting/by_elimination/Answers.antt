use Rattle.std.specs.Prelude.{◌≡◌, ◌++◌}
use Rattle.plane.specs.Rows.{rows_of}
use Rattle.plane.proofs.ShapeRows.{both_rows, count_of_first, rows_small, rows_frame, common, without}
use Rattle.plane.proofs.meeting.by_elimination.Goals as goal

pub push_rows-requires-2 : goal.push_rows-requires-2
push_rows-requires-2 c = count_of_first _ _ _ c.push_rows.ensures.items c.new-rows.ensures c.push_rows.ensures.count

all_rows : (c : goal.After-as_slice) → c.as_slice.result.now ≡ rows_of c.args.first.now ++ rows_of c.args.second.now
all_rows c = both_rows _ _ _ _ _ _ c.as_slice.ensures.value c.push_rows-2.ensures.items c.push_rows.ensures.items c.new-rows.ensures

pub solution-requires-clause-small : goal.solution-requires-clause-small
solution-requires-clause-small c = rows_small _ _ _ (all_rows c) c.push_rows.ensures.small c.push_rows-2.ensures.small

pub solution-requires-clause-frame : goal.solution-requires-clause-frame
solution-requires-clause-frame c = rows_frame c.args.first.now c.args.second.now _ (all_rows c)

pub returns-clause-common : goal.returns-clause-common
returns-clause-common c = common c.args.first.now c.args.second.now _ _ (all_rows c.before) c.solution.ensures.some

pub returns-clause-none : goal.returns-clause-none
returns-clause-none c = without c.args.first.now c.args.second.now _ _ (all_rows c.before) c.solution.ensures.none
