-- What a closed hall leaves, and why a hall does not close.
use Rattle.std.specs.Prelude.{◌≡◌, ◌≢◌, ◌⊎◌, ℕ, Bool, true, List, length, All, Contains}
use Rattle.audit_trail.specs.Calls.{calls_of}
use Rattle.judging.specs.States.{PlainState}
use Rattle.chronicle.specs.Chronicles.{ChronicleData, IsSoundChronicle, Opening}
use Rattle.chronicle.specs.Comparing.{DifferFirst}
use Rattle.hall.specs.declared.faults.CloseFault.{CloseFault}
use Rattle.hall.specs.declared.faults.CloseFault.TheVariants.{Memory, Mismatch, SeatOut}
use Rattle.hall.specs.Seats.{SeatData, IsKeptBy}

-- There is one legal trail of this many records from this opening on, and this many seats were given
-- to subjects of the opening. The trail's records of each of these seats are the seat's receipts.
pub record IsClosed (opening : Opening) (records count : ℕ) (seats : List SeatData) : Type 0 where
  pub chronicle : ChronicleData
  pub opened : chronicle.opening ≡ opening
  pub sound : IsSoundChronicle chronicle
  pub counted : length chronicle.records ≡ records
  pub given : length chronicle.seats ≡ count
  pub kept : All (IsKeptBy chronicle.records) seats

-- The same, and that trail leads to this state, with which another hall can begin.
pub record IsClosedAt (opening : Opening) (records count : ℕ) (seats : List SeatData)
    (state : PlainState) : Type 0 where
  pub chronicle : ChronicleData
  pub opened : chronicle.opening ≡ opening
  pub sound : IsSoundChronicle chronicle
  pub counted : length chronicle.records ≡ records
  pub given : length chronicle.seats ≡ count
  pub kept : All (IsKeptBy chronicle.records) seats
  pub last : chronicle.state ≡ state

-- the state to which a legal trail leads from this opening on; another hall can begin with it
pub record IsLeft (opening : Opening) (state : PlainState) : Type 0 where
  pub chronicle : ChronicleData
  pub opened : chronicle.opening ≡ opening
  pub sound : IsSoundChronicle chronicle
  pub last : chronicle.state ≡ state

-- one of these seats has this number, and its receipts and its records first differ at this place
pub record IsMismatch (named place : ℕ) (c : ChronicleData) (seats : List SeatData) : Type 0 where
  pub seat : SeatData
  pub handed_in : Contains seats seat
  pub number : seat.number ≡ named
  pub differ : DifferFirst place (calls_of seat.number c.records) seat.receipts

-- why a hall whose answers are all among its records does not close: the receipts and the records
-- of a seat differ; or fewer or more seats are handed in than were given, or they were handed in
-- before
abbrev pub IsCause : ChronicleData → Bool → List SeatData → CloseFault → Type 0
IsCause c gathered seats (Mismatch number place) = IsMismatch number place c seats
IsCause c gathered seats SeatOut = (length seats ≢ length c.seats) ⊎ (gathered ≡ true)
IsCause c gathered seats Memory = ⊥
