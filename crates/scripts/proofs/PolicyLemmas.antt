-- Seats, documents and rolls: they open and end no search and no transaction.
use Rattle.std.proofs.Common.{◌≡◌, ℕ, ◌+◌, Bool, true, false, List, [], ◌∷◌, ◌++◌, length, Result, Ok, Err, MatchResult, refl, sym, subst, inl, inr}
use Rattle.std.specs.Bool.{MatchBool}
use Rattle.features.specs.declared.actors.Subject.{Subject}
use Rattle.features.specs.declared.rows.Change.{Change}
use Rattle.policy_text.specs.Bytes.{document_of_bytes}
use Rattle.policy_documents.specs.Documents.{DocumentData}
use Rattle.policy_text.specs.Reading.{Fails}
use Rattle.policy_text.specs.declared.faults.TextFault.{TextFault}
use Rattle.policy_text.specs.declared.faults.TextFault.TheVariants as unread
use Rattle.plain_world.specs.declared.faults.Fault.{Fault}
use Rattle.plain_world.specs.Admitting.{may_govern, may_roll, may_sit}
use Rattle.plain_world.specs.Events.{TakeSeat, Govern as GovernEvent, Roll, Happens, If, Reply as EventReply, Number, Failed, UnlessMemory, Governs as PutsInForce, Rolls, is_memory}
use Rattle.plain_world.specs.States.{WorldData}
use Rattle.session_lines.specs.Desks.{GovernsLine, OnlySays, desk}
use Rattle.session_lines.specs.Replies.{SaidData, line, policy_reply}
use Rattle.session_lines.specs.Services.{Call, Govern}
use Rattle.scripts.specs.States.{IsAtRest}

-- a seat leaves searches and transactions unchanged
pub seat_rests : (name : List ℕ) (old new : WorldData) (reply : EventReply) → Happens (TakeSeat name) old new reply → IsAtRest old → IsAtRest new
seat_rests name old new reply h still = go (may_sit name old) h
  where
    ends : (subject : Subject) (b : Bool) → MatchBool b (new ≡ old) ((new ≡ record old { seats = old.seats ++ subject ∷ [] }) × (reply ≡ Number (length old.seats + 1))) → IsAtRest new
    ends subject true d = subst (λ (x : WorldData). IsAtRest x) (sym d) still
    ends subject false d = subst (λ (x : WorldData). IsAtRest x) (sym d.0) (record { searches = still.searches; transactions = still.transactions })

    go : (may : Result Subject Fault) → If may old new reply (λ subject. UnlessMemory old new reply ((new ≡ record old { seats = old.seats ++ subject ∷ [] }) × (reply ≡ Number (length old.seats + 1)))) → IsAtRest new
    go (Err fault) d = subst (λ (x : WorldData). IsAtRest x) (sym d.0) still
    go (Ok subject) d = ends subject (is_memory reply) d

-- a document leaves searches and transactions unchanged
pub govern_rests : (seat : ℕ) (document : DocumentData) (old new : WorldData) (reply : EventReply) → Happens (GovernEvent seat document) old new reply → IsAtRest old → IsAtRest new
govern_rests seat document old new reply h still = go (may_govern seat old) h
  where
    ends : (b : Bool) → MatchBool b (new ≡ old) (PutsInForce seat document old new reply) → IsAtRest new
    ends true d = subst (λ (x : WorldData). IsAtRest x) (sym d) still
    ends false d = subst (λ (x : WorldData). IsAtRest x) (sym d.1) (record { searches = still.searches; transactions = still.transactions })

    go : (may : Result Subject Fault) → If may old new reply (λ _. UnlessMemory old new reply (PutsInForce seat document old new reply)) → IsAtRest new
    go (Err fault) d = subst (λ (x : WorldData). IsAtRest x) (sym d.0) still
    go (Ok subject) d = ends (is_memory reply) d

-- a roll leaves searches and transactions unchanged
pub roll_rests : (seat : ℕ) (old new : WorldData) (reply : EventReply) → Happens (Roll seat) old new reply → IsAtRest old → IsAtRest new
roll_rests seat old new reply h still = go (may_roll seat old) h
  where
    ends : (b : Bool) → MatchBool b (new ≡ old) (Rolls old new reply) → IsAtRest new
    ends true d = subst (λ (x : WorldData). IsAtRest x) (sym d) still
    ends false d = subst (λ (x : WorldData). IsAtRest x) (sym d.1) (record { searches = still.searches; transactions = still.transactions })

    go : (may : Result (Unit {0}) Fault) → If may old new reply (λ _. UnlessMemory old new reply (Rolls old new reply)) → IsAtRest new
    go (Err fault) d = subst (λ (x : WorldData). IsAtRest x) (sym d.0) still
    go (Ok u) d = ends (is_memory reply) d

-- a text that is no document
module _ {S : Type 0} (serves : Call → S → S → SaidData → Type 0) (staged : List Change) (text : List ℕ) where
  abbrev Read : Result DocumentData TextFault → S → S → SaidData → Type 0
  Read reading old new said =
      MatchResult reading (λ document. (staged ≡ staged) × serves (Govern document) old new said) (λ fault. OnlySays (policy_reply fault) (desk staged old) (desk staged new) said)

  unread_so : (s : S) (fault : TextFault) → document_of_bytes text ≡ Err fault → GovernsLine serves text (desk staged s) (desk staged s) (line (policy_reply fault))
  unread_so s fault e = inr (subst (λ r. Read r s s (line (policy_reply fault))) (sym e) (refl, refl))

  pub governs_unread : (s : S) (fault : TextFault) → (text ≡ [] → fault ≡ unread.NotJson) → Fails fault (document_of_bytes text) → GovernsLine serves text (desk staged s) (desk staged s) (line (policy_reply fault))
  governs_unread s (unread.Memory refused) empty e = inl ((λ none. (let wrong = empty none in absurd cc)), refused, (refl, refl))
  governs_unread s unread.NotJson empty e = unread_so s unread.NotJson e
  governs_unread s (unread.Form path) empty e = unread_so s (unread.Form path) e
  governs_unread s (unread.UnknownKey path) empty e = unread_so s (unread.UnknownKey path) e
  governs_unread s (unread.NameTwice path name) empty e = unread_so s (unread.NameTwice path name) e
  governs_unread s (unread.NoZone path name) empty e = unread_so s (unread.NoZone path name) e
  governs_unread s (unread.BadZone path name fault) empty e = unread_so s (unread.BadZone path name fault) e
  governs_unread s (unread.TooDeep path) empty e = unread_so s (unread.TooDeep path) e
  governs_unread s (unread.TooMany path) empty e = unread_so s (unread.TooMany path) e

  -- a document that was read
  pub governs_read : (document : DocumentData) (old new : S) (said : SaidData) → document_of_bytes text ≡ Ok document → serves (Govern document) old new said → GovernsLine serves text (desk staged old) (desk staged new) said
  governs_read document old new said e h = inr (subst (λ r. Read r old new said) (sym e) (refl, h))
