-- What holds where the halls of a server follow one another.
use Rattle.std.specs.Prelude.{◌≡◌, ◌+◌, ℕ, List, [], ◌∷◌, length}
use Rattle.features.specs.declared.actors.Subject.{Subject}
use Rattle.features.specs.declared.actors.Subjects.{Subjects}
use Rattle.judging.specs.States.{PlainState}
use Rattle.chronicle.specs.Chronicles.{Opening}
use Rattle.hall.specs.Closing.{IsClosedAt}
use Rattle.hall.specs.Seats.{SeatData, receipts_of}
use Rattle.hall.specs.declared.closing.Closed.{Closed}
use Rattle.server.specs.declared.keeping.Begins.{Begins}
use Rattle.server.specs.declared.sockets.Connections.{Connections}
use Rattle.server.specs.declared.sockets.Connections.TheVariants.{UpTo, Endless}
use Rattle.server.specs.Served.{IsServed, opening_of}

-- a hall that has given way: its seats, and the state to which it has come
pub record TermData : Type 0 where
  pub seats : List SeatData
  pub state : PlainState

-- There is one legal trail from this opening on, which leads to the state: its records of each of
-- these seats are the seat's receipts, and all its records are receipts of these seats.
abbrev pub IsHeld : Opening → TermData → Type 0
IsHeld opening term =
    IsClosedAt opening (receipts_of term.seats) (length term.seats) term.seats term.state

-- a hall that was opened so has given way, with this account and at this state
pub record IsTerm (opening : Opening) (closed : Closed) (state : PlainState) : Type 0 where
  pub term : TermData
  pub held : IsHeld opening term
  pub left : term.state ≡ state
  pub records : closed.records ≡ receipts_of term.seats
  pub seats : closed.seats ≡ length term.seats

-- these subjects over a state
abbrev pub opening_at : List Subject → PlainState → Opening
opening_at subjects base = record { subjects = subjects; base = base }

-- halls for these subjects, each of which begins at the state to which the one before it has come:
-- from this state on, to that
abbrev pub Relays : List Subject → PlainState → List TermData → PlainState → Type 0
Relays subjects base [] end = end ≡ base
Relays subjects base (term ∷ terms) end =
    IsHeld (opening_at subjects base) term × Relays subjects term.state terms end

-- how many records, and how many seats, these halls had in all
abbrev pub records_of : List TermData → ℕ
records_of [] = 0
records_of (term ∷ terms) = receipts_of term.seats + records_of terms

abbrev pub seats_of : List TermData → ℕ
seats_of [] = 0
seats_of (term ∷ terms) = length term.seats + seats_of terms

-- halls have led from one opening to another, with this account
pub record LedTo (start now : Opening) (account : Closed) : Type 0 where
  pub terms : List TermData
  pub subjects : now.subjects ≡ start.subjects
  pub relays : Relays start.subjects start.base terms now.base
  pub records : account.records ≡ records_of terms
  pub seats : account.seats ≡ seats_of terms

-- What follows a hall that was closed with this account and left this state, behind halls of the
-- account `before`: it begins at that state, and the account is the sum.
pub record Follows (before closed : Closed) (left : PlainState) (next : Begins) (account : Closed)
    : Type 0 where
  pub begins : (subjects : List Subject) → opening_of subjects next ≡ opening_at subjects left
  pub records : account.records ≡ before.records + closed.records
  pub seats : account.seats ≡ before.seats + closed.seats

-- Halls followed one another from this opening on, to some state; they had so many records and seats
-- in all.
abbrev pub IsRelayed : Opening → Closed → Type 0
IsRelayed start account = (end : PlainState) × LedTo start (opening_at start.subjects end) account

-- what holds of a server that serves so many connections, or without end
abbrev pub ServedAs : Connections → Opening → Closed → Type 0
ServedAs (UpTo connections) opening account = IsServed opening account
ServedAs (Endless records) opening account = IsRelayed opening account

-- the same, for these subjects from some state on
abbrev pub ServedFrom : Connections → Subjects → Closed → Type 0
ServedFrom connections subjects account =
    (base : PlainState) × ServedAs connections (opening_at subjects base) account
