use Rattle.std.proofs.Common.{Ok, Err, refl}
use Rattle.map_calls.proofs.rolling.make_room.Goals as goal

pub returns-in-Ok : goal.returns-in-Ok
returns-in-Ok g c = (Ok tt, rw c.make_room.ensures.same at c.take_out.ensures)

pub returns-in-Err : goal.returns-in-Err
returns-in-Err g c = (Err c.in-Err.refused, (refl, c.make_room.ensures.same, refl))
