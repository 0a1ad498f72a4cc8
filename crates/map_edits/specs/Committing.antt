-- What comes of a request to change: its own fault, what keeps the session from it, or the reply to
-- the list of the one change that it asks for.
use Rattle.std.specs.Prelude.{◌≡◌, ℕ, List, [], ◌∷◌, Option, Result, Ok, Err, MatchOption, MatchResult}
use Rattle.features.specs.declared.actors.Subject.{Subject}
use Rattle.features.specs.declared.rows.Change.{Change}
use Rattle.map_changes.specs.Changing.{ReadsChange}
use Rattle.map_changes.specs.Requests.{RequestData}
use Rattle.map_changes.specs.declared.faults.ChangeFault.{ChangeFault}
use Rattle.map_changes.specs.declared.edits.Edit.{Edit}
use Rattle.session_lines.specs.Replies.{SaidData, line}
use Rattle.session_lines.specs.Services.{Call, Commit}
use Rattle.session_lines.specs.declared.replies.Reply.{Reply}
use Rattle.map_sessions.specs.Finding.{Greets}
use Rattle.map_sessions.specs.Visiting.{Place, unasked}
use Rattle.map_sessions.specs.declared.refusals.Refusal.{Refusal}
use Rattle.map_edits.specs.declared.committing.Outcome.{Outcome}
use Rattle.map_edits.specs.declared.committing.Outcome.TheVariants as outcomes

-- this list is committed, and this is the reply
abbrev pub Commits : {S : Type 0} → (Call → S → S → SaidData → Type 0) → List Change → S → S
    → Result Reply Refusal → Type 0
Commits serves changes old new outcome =
    (reply : Reply) × serves (Commit changes) old new (line reply) × (outcome ≡ Ok reply)

-- the session asks for this subject, and commits the list; nothing is committed where it does not
-- begin
abbrev pub CommitsFor : {S : Type 0} → (S → Option Subject) → (Call → S → S → SaidData → Type 0)
    → List ℕ → List Change → S → S → Result Reply Refusal → Type 0
CommitsFor {S = S} subject_of serves asker changes old new outcome =
    (mid : S) × (greeting : Result (Unit {0}) Refusal)
    × Greets subject_of serves asker old mid greeting
    × MatchResult greeting (λ begun. Commits serves changes mid new outcome)
    (λ refusal. (new ≡ mid) × (outcome ≡ Err refusal))

-- a list of changes is committed for who asks, and not where that is nobody
abbrev pub CommitsAsked : {S : Type 0} → (S → Option Subject) → (Call → S → S → SaidData → Type 0)
    → Place → Option (List ℕ) → List Change → S → S → Result Reply Refusal → Type 0
CommitsAsked subject_of serves place asker changes old new outcome =
    MatchOption asker ((new ≡ old) × (outcome ≡ Err (unasked place)))
    (λ asker. CommitsFor subject_of serves asker changes old new outcome)

-- what comes of a change that was asked for
abbrev pub outcome_of : Edit → Result Reply Refusal → Outcome
outcome_of edit (Ok reply) = outcomes.Replied edit reply
outcome_of edit (Err refusal) = outcomes.Refused refusal

-- a list of this change alone is committed for who asks
abbrev pub Carries : {S : Type 0} → (S → Option Subject) → (Call → S → S → SaidData → Type 0)
    → Place → Option (List ℕ) → Edit → S → S → Outcome → Type 0
Carries subject_of serves place asker edit old new outcome =
    (told : Result Reply Refusal)
    × CommitsAsked subject_of serves place asker (edit.change ∷ []) old new told
    × (outcome ≡ outcome_of edit told)

-- what a request asks for is carried out; of one at fault nothing is
abbrev pub Changes : {S : Type 0} → (S → Option Subject) → (Call → S → S → SaidData → Type 0)
    → Place → Option (List ℕ) → RequestData → S → S → Outcome → Type 0
Changes subject_of serves place asker request old new outcome =
    (reading : Result Edit ChangeFault)
    × ReadsChange place.grid place.classes request reading
    × MatchResult reading (λ edit. Carries subject_of serves place asker edit old new outcome)
    (λ fault. (new ≡ old) × (outcome ≡ outcomes.Fault fault))
