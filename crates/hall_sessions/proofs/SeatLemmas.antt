-- Calls of a session's seat, at its place among the worker's seats.
use Rattle.std.proofs.Common.{◌≡◌, ℕ, ◌<◌, List, length, slice_set, slice_index_or, Option, Some, MatchOption, MatchResult, Result, Ok, Err, refl, sym, ap, subst, ◌∙◌}
use Rattle.std.proofs.lemmas.Option.{slice_get_read}
use Rattle.std.proofs.lemmas.List.{set-get_or}
use mathlib.Core.List.{IsPrefix}
use Rattle.policy_documents.specs.Documents.{DocumentData}
use Rattle.decision.specs.Deciders.{DeciderData}
use Rattle.published_policies.specs.Lists.{last_edition}
use Rattle.hall.specs.declared.faults.HallFault.{HallFault}
use Rattle.hall.specs.Calls.{IsGoverned}
use Rattle.hall.specs.Seats.{SeatData}
use Rattle.session_lines.specs.declared.faults.LineFault.TheVariants.{BeforeHello}
use Rattle.session_lines.specs.declared.replies.Reply.TheVariants.{Edition, Error}
use Rattle.session_lines.specs.Replies.{SaidData, line}
use Rattle.hall_sessions.specs.Replies.{hall_told}
use Rattle.hall_sessions.specs.Services.{Calls, CallsSeat, OnlySays, PutsInForce, SeatChanges}
use Rattle.hall_sessions.specs.Sessions.{SessionData, session, seat_of}

-- a seat that is written back unchanged changes nothing
pub written_back : (seats : List SeatData) (place : ℕ) (seat next : SeatData) → seat ≡ slice_index_or seats place seat → next ≡ seat → slice_set seats place next ≡ seats
written_back seats place seat next is same = ap (λ (s : SeatData). slice_set seats place s) (same ∙ is) ∙ set-get_or seats place seat

-- the session's seat is at its place
pub stands : (seats : List SeatData) (len place : ℕ) (seat : SeatData) (view : List DeciderData) → len ≡ length seats → place < len
    → seat ≡ slice_index_or seats place seat → seat_of (session place seats view) ≡ Some seat
stands seats len place seat view counted within is = slice_get_read seats len place seat counted within is

-- the seat at the session's place was called
pub called : {T : Type 0} (show : T → SaidData) (Changes : T → SeatData → SessionData → SessionData → Type 0) (end : Result T HallFault) (said : SaidData)
    (old new : SessionData) (seat : SeatData) → seat_of old ≡ Some seat → said ≡ hall_told show end
    → MatchResult end (λ value. Changes value seat old new) (λ fault. new ≡ old) → Calls show Changes old new said
called {T = T} show Changes end said old new seat here says left =
    let Called : Option SeatData → Type 0 = λ own. MatchOption own (OnlySays (Error BeforeHello) old new said)
    (λ seat. (end : Result T HallFault) × (said ≡ hall_told show end) × MatchResult end (λ value. Changes value seat old new) (λ fault. new ≡ old)) in
    subst Called (sym here) (end, says, left)

module _ {T : Type 0} (show : T → SaidData) (Changes : T → SeatData → SeatData → Type 0) where
  leaves : (end : Result T HallFault) (seats : List SeatData) (place : ℕ) (seat next : SeatData) (view : List DeciderData)
      → seat ≡ slice_index_or seats place seat
      → MatchResult end (λ value. Changes value seat next) (λ fault. next ≡ seat)
      → MatchResult end (λ value. SeatChanges (Changes value) seat (session place seats view) (session place (slice_set seats place next) view))
      (λ fault. session place (slice_set seats place next) view ≡ session place seats view)
  leaves (Ok value) seats place seat next view is changes = (next, changes, refl)
  leaves (Err fault) seats place seat next view is same = ap (λ (s : List SeatData). session place s view) (written_back seats place seat next is same)

  -- the same, where only the seat changes
  pub seat_called : (end : Result T HallFault) (said : SaidData) (seats : List SeatData) (len place : ℕ) (seat next : SeatData) (view : List DeciderData)
      → len ≡ length seats → place < len → seat ≡ slice_index_or seats place seat → said ≡ hall_told show end
      → MatchResult end (λ value. Changes value seat next) (λ fault. next ≡ seat)
      → CallsSeat show Changes (session place seats view) (session place (slice_set seats place next) view) said
  seat_called end said seats len place seat next view counted within is says left =
      called show (λ value. SeatChanges (Changes value)) end said (session place seats view) (session place (slice_set seats place next) view) seat
      (stands seats len place seat view counted within is) says (leaves end seats place seat next view is left)

-- the seat at the session's place has put a document in force, and the view was told of it
pub governed : (document : DocumentData) (list : List DeciderData) (seats : List SeatData) (len place : ℕ) (seat next : SeatData) (before after : List DeciderData)
    → len ≡ length seats → place < len → seat ≡ slice_index_or seats place seat
    → IsGoverned document list seat next → IsPrefix before after → IsPrefix list after
    → Calls (λ list. line (Edition (last_edition list))) (λ list. PutsInForce document list) (session place seats before)
    (session place (slice_set seats place next) after) (line (Edition (last_edition list)))
governed document list seats len place seat next before after counted within is done kept told_of =
    let show : List DeciderData → SaidData = λ list. line (Edition (last_edition list)) in
    let old : SessionData = session place seats before in
    let new : SessionData = session place (slice_set seats place next) after in
    let in_force : PutsInForce document list seat old new = record { next = next; governed = done; before = kept; told = told_of; only = refl } in
    called show (λ list. PutsInForce document list) (Ok list) _ old new seat (stands seats len place seat before counted within is) refl in_force
