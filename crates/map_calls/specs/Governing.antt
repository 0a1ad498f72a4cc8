-- Documents that are put in force.
use Rattle.std.specs.Prelude.{◌≡◌, ⊤, ℕ, Bool, List, codes, Option, Result, Ok, Err, MatchResult, if◌then◌else◌}
use Rattle.std.specs.Str.{str_eq_ignore_ascii_case}
use Rattle.features.specs.declared.actors.Subject.{Subject}
use Rattle.policy_documents.specs.Documents.{DocumentData}
use Rattle.policy_text.specs.Bytes.{document_of_bytes}
use Rattle.policy_text.specs.declared.faults.TextFault.{TextFault}
use Rattle.policy_text.specs.declared.faults.TextFault.TheVariants.{Memory}
use Rattle.map_asks.specs.Queries.{is_empty_query}
use Rattle.map_changes.specs.Media.{media_type}
use Rattle.map_questions.specs.Calls.{CallData}
use Rattle.session_lines.specs.Replies.{SaidData, line}
use Rattle.session_lines.specs.Services.{Call, Govern}
use Rattle.session_lines.specs.declared.replies.Reply.{Reply}
use Rattle.map_sessions.specs.Visiting.{Place}
use Rattle.map_sessions.specs.declared.refusals.Refusal.{Refusal}
use Rattle.map_calls.specs.Asking.{Opens}
use Rattle.map_calls.specs.declared.outcomes.CallFault.{CallFault}
use Rattle.map_calls.specs.declared.outcomes.CallFault.TheVariants.{Parameter, Media, Unread}
use Rattle.map_calls.specs.declared.outcomes.Outcome.{Outcome}
use Rattle.map_calls.specs.declared.outcomes.Outcome.TheVariants as outcomes

-- the field names JSON (RFC 8259, 11)
unfoldable pub is_json : List ℕ → Bool
is_json field = str_eq_ignore_ascii_case (media_type field) (codes "application/json")

-- a document, or its fault as one of a request
abbrev pub as_fault : Result DocumentData TextFault → Result DocumentData CallFault
as_fault (Ok document) = Ok document
as_fault (Err fault) = Err (Unread fault)

-- the document in the body of a request, which has no query and whose body is JSON
unfoldable pub policy_of : CallData → Result DocumentData CallFault
policy_of request =
    if is_empty_query request.query then
    (if is_json request.media then as_fault (document_of_bytes request.body) else Err Media)
    else Err Parameter

-- what was read is the request's document or its first fault, or an allocation was refused
abbrev pub ReadsPolicy : CallData → Result DocumentData CallFault → Type 0
ReadsPolicy request (Err (Unread (Memory refused))) = ⊤
ReadsPolicy request reading = policy_of request ≡ reading

-- the document is put in force, and this is the reply
abbrev pub Puts : {S : Type 0} → (Call → S → S → SaidData → Type 0) → DocumentData → S → S
    → Outcome → Type 0
Puts serves document old new outcome =
    (reply : Reply) × serves (Govern document) old new (line reply)
    × (outcome ≡ outcomes.Governed reply)

-- the session asks for who asks, and puts it in force; nothing is put where it does not begin
abbrev pub GovernsFor : {S : Type 0} → (S → Option Subject) → (Call → S → S → SaidData → Type 0)
    → Place → Option (List ℕ) → DocumentData → S → S → Outcome → Type 0
GovernsFor {S = S} subject_of serves place asker document old new outcome =
    (mid : S) × (opening : Result (Unit {0}) Refusal)
    × Opens subject_of serves place asker old mid opening
    × MatchResult opening (λ begun. Puts serves document mid new outcome)
    (λ refusal. (new ≡ mid) × (outcome ≡ outcomes.Refused refusal))

-- the document of the request is put in force; of one at fault nothing is
abbrev pub Governs : {S : Type 0} → (S → Option Subject) → (Call → S → S → SaidData → Type 0)
    → Place → Option (List ℕ) → CallData → S → S → Outcome → Type 0
Governs subject_of serves place asker request old new outcome =
    (reading : Result DocumentData CallFault) × ReadsPolicy request reading
    × MatchResult reading
    (λ document. GovernsFor subject_of serves place asker document old new outcome)
    (λ fault. (new ≡ old) × (outcome ≡ outcomes.Fault fault))
