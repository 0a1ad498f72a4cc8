-- Requests to change: what is done, and what is told.
use Rattle.std.specs.Prelude.{◌≡◌, ℕ, List, Option, Result, IfOk}
use Rattle.features.specs.declared.actors.Subject.{Subject}
use Rattle.memory.specs.declared.no_memory.NoMemory.{NoMemory}
use Rattle.map_answers.specs.Answers.{AnswerData}
use Rattle.map_changes.specs.Requests.{RequestData}
use Rattle.session_lines.specs.Replies.{SaidData}
use Rattle.session_lines.specs.Services.{Call}
use Rattle.map_sessions.specs.Visiting.{Place}
use Rattle.map_edits.specs.Committing.{Changes}
use Rattle.map_edits.specs.Telling.{outcome_data}
use Rattle.map_edits.specs.declared.committing.Outcome.{Outcome}

-- what the request asks for is carried out whatever can be told, and told if there is memory for it
abbrev pub IsChanged : {S : Type 0} → (S → Option Subject) → (Call → S → S → SaidData → Type 0)
    → Place → Option (List ℕ) → RequestData → S → S → Result AnswerData NoMemory → Type 0
IsChanged subject_of serves place asker request old new told =
    (outcome : Outcome) × Changes subject_of serves place asker request old new outcome
    × IfOk told (λ answer. answer ≡ outcome_data place.base outcome)
