use Rattle.std.proofs.Common.{◌≡◌, Ok, Err, refl, ap}
use Rattle.std.specs.Arc.{arc_value}
use Rattle.plain_world.specs.Rolls.{RolledData}
use Rattle.session_lines.specs.Replies.{line, rolled}
use Rattle.hall_sessions.proofs.SeatLemmas.{seat_called}
use Rattle.hall_sessions.proofs.attended.AttendedService.roll.Goals as goal

pub returns-in-Err : goal.returns-in-Err
returns-in-Err g c =
    let s = c.args.self.now in
    (refl, refl, refl, refl, seat_called {T = RolledData} rolled (λ piece seat next. next ≡ seat) (Err c.in-Err.fault) _ s.seats.now.items _ s.earlier c.in-Some.seat.now c.roll.new.self s.view.now s.seats.now.ok.0 (c.in-Some.ensures.variant.0 refl) c.in-Some.ensures.value (ap line c.hall_reply.ensures) c.in-Err.ensures)

pub returns-in-Ok : goal.returns-in-Ok
returns-in-Ok g c =
    let s = c.args.self.now in
    (refl, refl, refl, refl, seat_called {T = RolledData} rolled (λ piece seat next. next ≡ seat) (Ok (arc_value c.in-Ok.piece)) _ s.seats.now.items _ s.earlier c.in-Some.seat.now c.roll.new.self s.view.now s.seats.now.ok.0 (c.in-Some.ensures.variant.0 refl) c.in-Some.ensures.value refl c.in-Ok.ensures)
