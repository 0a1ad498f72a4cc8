use Rattle.std.proofs.Common.{Err, refl, ap}
use Rattle.hall.specs.Calls.{IsCommitted}
use Rattle.session_lines.specs.Replies.{line, outcome_reply}
use Rattle.hall_sessions.proofs.SeatLemmas.{seat_called}
use Rattle.hall_sessions.proofs.attended.AttendedService.commit.Goals as goal

pub returns-in-Err : goal.returns-in-Err
returns-in-Err g c =
    let s = c.args.self.now in
    (refl, refl, refl, refl, seat_called (λ outcome. line (outcome_reply outcome)) (λ outcome. IsCommitted c.args.changes.now outcome) (Err c.in-Err.fault) _ s.seats.now.items _ s.earlier c.in-Some.seat.now c.commit.new.self s.view.now s.seats.now.ok.0 (c.in-Some.ensures.variant.0 refl) c.in-Some.ensures.value (ap line c.hall_reply-reply.ensures) c.in-Err.ensures.err)
