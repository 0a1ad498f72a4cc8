-- What comes of a request to make a list of changes: its own fault, what keeps the session from it,
-- or the reply to the list.
use Rattle.std.specs.Prelude.{◌≡◌, ℕ, List, length, Option, Result, Ok, Err, MatchResult}
use Rattle.features.specs.declared.actors.Subject.{Subject}
use Rattle.features.specs.declared.rows.Change.{Change}
use Rattle.session_lines.specs.Replies.{SaidData}
use Rattle.session_lines.specs.Services.{Call}
use Rattle.session_lines.specs.declared.replies.Reply.{Reply}
use Rattle.map_sessions.specs.Visiting.{Place}
use Rattle.map_sessions.specs.declared.refusals.Refusal.{Refusal}
use Rattle.map_edits.specs.Committing.{CommitsAsked}
use Rattle.map_lists.specs.Reading.{ReadsList}
use Rattle.map_lists.specs.Requests.{ListData}
use Rattle.map_lists.specs.declared.committing.Outcome.{Outcome}
use Rattle.map_lists.specs.declared.committing.Outcome.TheVariants as outcomes
use Rattle.map_lists.specs.declared.faults.ListFault.{ListFault}

-- what comes of a list of this many changes
abbrev pub outcome_of : ℕ → Result Reply Refusal → Outcome
outcome_of count (Ok reply) = outcomes.Replied count reply
outcome_of count (Err refusal) = outcomes.Refused refusal

-- the list is committed for who asks
abbrev pub Carries : {S : Type 0} → (S → Option Subject) → (Call → S → S → SaidData → Type 0)
    → Place → Option (List ℕ) → List Change → S → S → Outcome → Type 0
Carries subject_of serves place asker changes old new outcome =
    (told : Result Reply Refusal)
    × CommitsAsked subject_of serves place asker changes old new told
    × (outcome ≡ outcome_of (length changes) told)

-- the list that a request asks for is committed; of a request at fault nothing is
abbrev pub Lists : {S : Type 0} → (S → Option Subject) → (Call → S → S → SaidData → Type 0)
    → Place → Option (List ℕ) → ListData → S → S → Outcome → Type 0
Lists subject_of serves place asker request old new outcome =
    (reading : Result (List Change) ListFault) × ReadsList place.grid request reading
    × MatchResult reading
    (λ changes. Carries subject_of serves place asker changes old new outcome)
    (λ fault. (new ≡ old) × (outcome ≡ outcomes.Fault fault))
