use Rattle.std.proofs.Common.{List, Err, inl, refl, ap}
use Rattle.hall.specs.declared.faults.HallFault.TheVariants.{Memory}
use Rattle.hall.specs.Seats.{SeatData}
use Rattle.hall_sessions.specs.Sessions.{session}
use Rattle.hall_sessions.proofs.attended.AttendedService.hello.Goals as goal

pub returns-in-Err : goal.returns-in-Err
returns-in-Err g c =
    (refl, refl, refl, refl, inl (Err (Memory c.in-Err.no_memory), refl, ap (λ (seats : List SeatData). session c.args.self.now.earlier seats c.args.self.now.view.now) c.in-Err.ensures.items))
