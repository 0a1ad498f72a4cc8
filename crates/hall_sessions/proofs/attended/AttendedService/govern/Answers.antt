use Rattle.std.proofs.Common.{List, Err, refl, ap}
use Rattle.published_policies.specs.Lists.{last_edition}
use Rattle.hall.specs.Seats.{SeatData}
use Rattle.session_lines.specs.declared.replies.Reply.TheVariants.{Edition}
use Rattle.session_lines.specs.Replies.{line}
use Rattle.hall_sessions.specs.Services.{PutsInForce}
use Rattle.hall_sessions.specs.Sessions.{session}
use Rattle.hall_sessions.proofs.SeatLemmas.{called, governed, stands, written_back}
use Rattle.hall_sessions.proofs.attended.AttendedService.govern.Goals as goal

pub returns-in-Err : goal.returns-in-Err
returns-in-Err g c =
    let s = c.args.self.now in
    let seat = c.in-Some.seat.now in
    let is = c.in-Some.ensures.value in
    let here = stands s.seats.now.items _ s.earlier seat s.view.now s.seats.now.ok.0 (c.in-Some.ensures.variant.0 refl) is in
    let same = written_back s.seats.now.items s.earlier seat c.govern.new.self is c.in-Err.ensures.err in (
      refl,
      refl,
      refl,
      refl,
      called (λ list. line (Edition (last_edition list))) (λ list. PutsInForce c.args.document list) (Err c.in-Err.fault) _ _ _ seat here
          (ap line c.hall_reply-reply.ensures) (ap (λ (seats : List SeatData). session s.earlier seats s.view.now) same),
    )

pub returns-in-Ok : goal.returns-in-Ok
returns-in-Ok g c =
    let s = c.args.self.now in (
      refl,
      refl,
      refl,
      refl,
      rw c.number-number.ensures.last (governed c.args.document c.in-Ok.edition s.seats.now.items _ s.earlier c.in-Some.seat.now c.govern.new.self
          s.view.now _ s.seats.now.ok.0 (c.in-Some.ensures.variant.0 refl) c.in-Some.ensures.value c.in-Ok.ensures.ok c.catch_up.ensures.before c.catch_up.ensures.edition),
    )
