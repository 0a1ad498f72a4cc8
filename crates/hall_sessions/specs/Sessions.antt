-- A session over a hall, as plain data.
use Rattle.std.specs.Prelude.{ℕ, List, length, slice_get, slice_set, Option, None, Some}
use Rattle.features.specs.declared.actors.Subject.{Subject}
use Rattle.decision.specs.Deciders.{DeciderData}
use Rattle.hall.specs.Seats.{SeatData}

-- the seats of the worker that serves the session, how many of them are before the session's own,
-- and the published list of policies as far as the worker's view knows it
pub record SessionData : Type 0 where
  pub earlier : ℕ
  pub seats : List SeatData
  pub view : List DeciderData

abbrev pub session : ℕ → List SeatData → List DeciderData → SessionData
session earlier seats view = record { earlier = earlier; seats = seats; view = view }

-- a session that has not begun, or has ended: none of these seats is its own
abbrev pub unbegun : List SeatData → List DeciderData → SessionData
unbegun seats view = session (length seats) seats view

-- the session's seat, from HELLO on
abbrev pub seat_of : SessionData → Option SeatData
seat_of s = slice_get s.seats s.earlier

-- this seat replaces the session's, and no other seat changes
abbrev pub with_seat : SeatData → SessionData → SessionData
with_seat seat s = record s { seats = slice_set s.seats s.earlier seat }

abbrev pub subject_at : Option SeatData → Option Subject
subject_at None = None
subject_at (Some seat) = Some seat.subject

-- the subject for whom the session asks, from HELLO on
abbrev pub session_subject : SessionData → Option Subject
session_subject s = subject_at (seat_of s)
