use Rattle.std.proofs.Common.{Err, refl, ap}
use Rattle.hall.specs.Calls.{IsSearched}
use Rattle.session_lines.specs.Replies.{line, rows}
use Rattle.hall_sessions.proofs.SeatLemmas.{seat_called}
use Rattle.hall_sessions.proofs.attended.AttendedService.search.Goals as goal

pub returns-in-Err : goal.returns-in-Err
returns-in-Err g c =
    let s = c.args.self.now in
    (refl, refl, refl, refl, seat_called rows (λ answer. IsSearched c.args.window answer) (Err c.in-Err.fault) _ s.seats.now.items _ s.earlier c.in-Some.seat.now c.search.new.self s.view.now s.seats.now.ok.0 (c.in-Some.ensures.variant.0 refl) c.in-Some.ensures.value (ap line c.hall_reply.ensures) c.in-Err.ensures.err)
