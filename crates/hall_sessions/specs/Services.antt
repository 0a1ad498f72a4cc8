-- What the calls of a session make of its seat and its view, and what is said.
use Rattle.std.specs.Prelude.{◌≡◌, ◌⊎◌, ℕ, List, [], ◌∷◌, ◌++◌, length, nat_eq, slice_get, Bool, true, IsTrue, MatchOption, MatchResult, Result, Some, None}
use Rattle.std.specs.Cmp.Lexicographic.{pointwise}
use Rattle.std.specs.List.{last_or}
use mathlib.Core.List.{IsPrefix}
use Rattle.features.specs.declared.actors.Subject.{Subject}
use Rattle.features.specs.Subjects.{subject_named}
use Rattle.policy_documents.specs.Documents.{DocumentData}
use Rattle.combining.specs.declared.questions.Question.{Question}
use Rattle.decision.specs.Deciders.{DeciderData}
use Rattle.decision.specs.Rulings.{Rules}
use Rattle.decision.specs.declared.rulings.Ruling.{Ruling}
use Rattle.published_policies.specs.Lists.{IsPublished, last_edition}
use Rattle.hall.specs.Calls.{IsSearched, IsCommitted, IsGoverned}
use Rattle.hall.specs.declared.faults.HallFault.{HallFault}
use Rattle.hall.specs.Seats.{SeatData}
use Rattle.plain_world.specs.Rolls.{RolledData}
use Rattle.session_lines.specs.declared.faults.LineFault.TheVariants.{BeforeHello, NotRead}
use Rattle.session_lines.specs.declared.replies.Reply.{Reply}
use Rattle.session_lines.specs.declared.replies.Reply.TheVariants.{Hello as Greets, Edition, Bye, Error}
use Rattle.session_lines.specs.Replies.{SaidData, line, rows, rolled, outcome_reply, ruling_reply}
use Rattle.session_lines.specs.Services.{Call, Hello, Search, Commit, Govern, Explain, Roll, Leave}
use Rattle.hall_sessions.specs.Replies.{hall_told}
use Rattle.hall_sessions.specs.Sessions.{SessionData, session, unbegun, seat_of, with_seat}

-- nothing changes, and this is the reply
abbrev pub OnlySays : Reply → SessionData → SessionData → SaidData → Type 0
OnlySays reply old new said = (new ≡ old) × (said ≡ line reply)

-- the session's seat changes by `Changes`, and no other seat does
abbrev pub SeatChanges : (SeatData → SeatData → Type 0) → SeatData → SessionData → SessionData
    → Type 0
SeatChanges Changes seat old new =
    (next : SeatData) × Changes seat next × (new ≡ with_seat next old)

-- A call of the session's seat: the reply says its result, and the session changes by `Changes` for
-- this result. A call that the hall refuses changes nothing. No line leads here before HELLO, since
-- E5 comes before the call.
abbrev pub Calls : {T : Type 0} → (T → SaidData)
    → (T → SeatData → SessionData → SessionData → Type 0) → SessionData → SessionData → SaidData
    → Type 0
Calls {T = T} show Changes old new said =
    MatchOption (seat_of old) (OnlySays (Error BeforeHello) old new said)
    (λ seat. (end : Result T HallFault) × (said ≡ hall_told show end)
    × MatchResult end (λ value. Changes value seat old new) (λ fault. new ≡ old))

-- the same, where only the seat changes
abbrev pub CallsSeat : {T : Type 0} → (T → SaidData) → (T → SeatData → SeatData → Type 0)
    → SessionData → SessionData → SaidData → Type 0
CallsSeat show Changes = Calls show (λ value. SeatChanges (Changes value))

-- the seat has put a document in force, with which this list ends, and the view was told of the
-- list
pub record PutsInForce (document : DocumentData) (list : List DeciderData) (seat : SeatData)
    (old new : SessionData) : Type 0 where
  pub next : SeatData
  pub governed : IsGoverned document list seat next
  pub before : IsPrefix old.view new.view
  pub told : IsPrefix list new.view
  pub only : new ≡ record (with_seat next old) { view = new.view }

-- The view has read the published list at least as far as it knew it before, and the reply is the
-- ruling of the last decider that it has read.
pub record ExplainsInHall (question : Question) (old new : SessionData) (said : SaidData) : Type 0
  where
    pub before : IsPrefix old.view new.view
    pub published : IsPublished new.view
    pub decider : DeciderData
    pub last : last_or None new.view ≡ Some decider
    pub ruling : Ruling
    pub ruled : Rules decider.document question ruling
    pub reply : said ≡ line (ruling_reply decider ruling)
    pub only : new ≡ record old { view = new.view }

-- a session begins where the subject of its name, among those who may have a seat, is given one: it
-- has no receipts yet, and is appended to the seats of the worker's earlier sessions
abbrev pub BeginsInHall : List Subject → List ℕ → SessionData → SessionData → SaidData → Type 0
BeginsInHall subjects name old new said =
    (end : Result SeatData HallFault) × (said ≡ hall_told (λ seat. line (Greets name)) end)
    × MatchResult end
    (λ seat. (subject_named name subjects ≡ Some seat.subject) × (seat.receipts ≡ [])
    × (new ≡ session (length old.seats) (old.seats ++ seat ∷ []) old.view))
    (λ fault. new ≡ old)

-- at this place is a seat whose subject has this name
pub record IsSeatNamed (name : List ℕ) (place : ℕ) (seats : List SeatData) : Type 0 where
  pub seat : SeatData
  pub found : slice_get seats place ≡ Some seat
  pub named : IsTrue (pointwise nat_eq seat.subject.name name)

-- a session begins with a seat that an earlier session of the worker had, for a subject of its
-- name; the seat keeps its receipts
pub record BeginsAgain (name : List ℕ) (old new : SessionData) (said : SaidData) : Type 0 where
  pub place : ℕ
  pub seat : IsSeatNamed name place old.seats
  pub begun : new ≡ session place old.seats old.view
  pub reply : said ≡ line (Greets name)

-- What a call makes of a session of a hall in which these subjects may have seats, and what is said.
-- A search, a commit or a document that succeeds
-- adds one receipt, and the reply says what the receipt records; a roll adds none. A question is
-- ruled by the last policy that the view reads, or there is none to read; it changes no seat. `again`
-- says whether seats are given again.
abbrev pub ServesInHall : Bool → List Subject → Call → SessionData → SessionData → SaidData → Type 0
ServesInHall again subjects (Hello name) old new said =
    BeginsInHall subjects name old new said ⊎ ((again ≡ true) × BeginsAgain name old new said)
ServesInHall again subjects (Search window) old new said =
    CallsSeat rows (λ answer. IsSearched window answer) old new said
ServesInHall again subjects (Commit changes) old new said =
    CallsSeat (λ outcome. line (outcome_reply outcome)) (λ outcome. IsCommitted changes outcome) old
    new said
ServesInHall again subjects (Govern document) old new said =
    Calls (λ list. line (Edition (last_edition list))) (λ list. PutsInForce document list) old new said
ServesInHall again subjects (Explain question) old new said =
    OnlySays (Error NotRead) old new said ⊎ ExplainsInHall question old new said
ServesInHall again subjects Roll old new said =
    CallsSeat {T = RolledData} rolled (λ piece seat next. next ≡ seat) old new said
ServesInHall again subjects Leave old new said =
    (new ≡ unbegun old.seats old.view) × (said ≡ line Bye)
