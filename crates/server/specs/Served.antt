-- What holds where all that was served is closed.
use Rattle.std.specs.Prelude.{◌≡◌, List, length}
use Rattle.judging.specs.States.{PlainState}
use Rattle.chronicle.specs.Chronicles.{Opening, opening_by}
use Rattle.features.specs.declared.actors.Subjects.{Subjects}
use Rattle.server.specs.declared.keeping.Begins.{Begins}
use Rattle.server.specs.declared.keeping.Begins.TheVariants as begins
use Rattle.hall.specs.Closing.{IsClosed}
use Rattle.hall.specs.Seats.{SeatData, receipts_of}
use Rattle.hall.specs.declared.closing.Closed.{Closed}

-- The sessions had these seats. There is one legal trail: its records of each of these seats are
-- the seat's receipts, and all its records are receipts of these seats.
pub record IsServed (opening : Opening) (closed : Closed) : Type 0 where
  pub seats : List SeatData
  pub trail : IsClosed opening closed.records closed.seats seats
  pub records : closed.records ≡ receipts_of seats
  pub given : closed.seats ≡ length seats

-- What a world is opened with, that begins so for these subjects: by a document with no features,
-- or at a state.
abbrev pub opening_of : Subjects → Begins → Opening
opening_of subjects (begins.Document document) = opening_by subjects document
opening_of subjects (begins.State restored) = record { subjects = subjects; base = restored.base }
