-- Seats as plain data.
use Rattle.std.specs.Prelude.{◌≡◌, ◌+◌, ℕ, List, [], ◌∷◌, ◌++◌, map, length}
use Rattle.std.proofs.Common.{ap}
use Rattle.features.specs.declared.actors.Subject.{Subject}
use Rattle.audit_trail.specs.Calls.{calls_of}
use Rattle.audit_trail.specs.Coding as trails
use Rattle.audit_trail.specs.Records.{DeedData, RecordData}

-- a seat: its number, its subject, and its receipts, which are records
pub record SeatData : Type 0 where
  pub number : ℕ
  pub subject : Subject
  pub receipts : List RecordData

-- a seat with one more receipt, of this deed
abbrev pub receipted : DeedData → SeatData → SeatData
receipted deed seat = record seat {
  receipts = seat.receipts ++ record {
    seat = seat.number;
    deed = deed;
  } ∷ [];
}

-- the records of the seat are its receipts, in order
abbrev pub IsKeptBy : List RecordData → SeatData → Type 0
IsKeptBy records seat = calls_of seat.number records ≡ seat.receipts

-- how many receipts these seats have
abbrev pub receipts_of : List SeatData → ℕ
receipts_of [] = 0
receipts_of (seat ∷ seats) = length seat.receipts + receipts_of seats

-- the coding of a seat, by which proofs tell two seats apart
abbrev pub StoredSeat : Type 0
StoredSeat = ℕ × (Subject × List trails.StoredRecord)

abbrev pub stored_seat : SeatData → StoredSeat
stored_seat seat = (seat.number, (seat.subject, map trails.stored seat.receipts))

abbrev pub restored_seat : StoredSeat → SeatData
restored_seat s = record { number = s.0; subject = s.1.0; receipts = map trails.restored s.1.1 }

abbrev pub restored_seat-stored_seat : (seat : SeatData) → restored_seat (stored_seat seat) ≡ seat
restored_seat-stored_seat seat =
    ap (λ (receipts : List RecordData). let e : SeatData = record {
      number = seat.number;
      subject = seat.subject;
      receipts = receipts;
    } in e)
    (trails.restored_all-stored_all seat.receipts)
