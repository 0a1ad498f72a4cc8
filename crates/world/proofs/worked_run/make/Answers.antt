use Rattle.std.specs.Arc.{arc_value}
use Rattle.plain_world.specs.Events.{Number, Done, Visited, Advanced, Tended, Rows, Ended, TakenOut, reply_of, reply_handing}
use Rattle.world.proofs.worked_run.make.Goals as goal

pub returns-in-Seat : goal.returns-in-Seat
returns-in-Seat g c = (reply_of Number c.seat.result, rw c.in-Seat.is c.seat.ensures.happens)

pub returns-in-OpenSearch : goal.returns-in-OpenSearch
returns-in-OpenSearch g c = (reply_of Number c.open_search.result, rw c.in-OpenSearch.is c.open_search.ensures.happens)

pub returns-in-Visit : goal.returns-in-Visit
returns-in-Visit g c = (reply_of Visited c.visit.result, rw c.in-Visit.is c.visit.ensures.happens)

pub returns-in-Finish : goal.returns-in-Finish
returns-in-Finish g c = (reply_of Rows c.finish.result, rw c.in-Finish.is c.finish.ensures.happens)

pub returns-in-DropSearch : goal.returns-in-DropSearch
returns-in-DropSearch g c = (reply_of (λ _. Done) c.drop_search.result, rw c.in-DropSearch.is c.drop_search.ensures.happens)

pub returns-in-Begin : goal.returns-in-Begin
returns-in-Begin g c = (reply_of Number c.begin.result, rw c.in-Begin.is c.begin.ensures.happens)

pub returns-in-Stage : goal.returns-in-Stage
returns-in-Stage g c = (reply_of (λ _. Done) c.stage.result, rw c.in-Stage.is c.stage.ensures.happens)

pub returns-in-Advance : goal.returns-in-Advance
returns-in-Advance g c = (reply_of Advanced c.advance.result, rw c.in-Advance.is c.advance.ensures.happens)

pub returns-in-Commit : goal.returns-in-Commit
returns-in-Commit g c = (reply_of Ended c.commit.result, rw c.in-Commit.is c.commit.ensures.happens)

pub returns-in-Abort : goal.returns-in-Abort
returns-in-Abort g c = (reply_of (λ _. Done) c.abort.result, rw c.in-Abort.is c.abort.ensures.happens)

pub returns-in-Tend : goal.returns-in-Tend
returns-in-Tend g c = (reply_of Tended c.tend.result, rw c.in-Tend.is c.tend.ensures.happens)

pub returns-in-Roll : goal.returns-in-Roll
returns-in-Roll g c = (reply_of (λ piece. TakenOut (arc_value piece)) c.roll.result, rw c.in-Roll.is c.roll.ensures.happens)

pub returns-in_ok-copy-in-Govern : goal.returns-in_ok-copy-in-Govern
returns-in_ok-copy-in-Govern g c = (reply_handing Number c.govern.result, rw c.in-Govern.is (rw c.in_ok-copy-in-Govern.ensures at c.govern.ensures.happens))
