-- Requests to make a list of changes: what is done, and what is told.
use Rattle.std.specs.Prelude.{◌≡◌, ℕ, List, Option, Result, IfOk}
use Rattle.features.specs.declared.actors.Subject.{Subject}
use Rattle.memory.specs.declared.no_memory.NoMemory.{NoMemory}
use Rattle.map_answers.specs.Answers.{AnswerData}
use Rattle.session_lines.specs.Replies.{SaidData}
use Rattle.session_lines.specs.Services.{Call}
use Rattle.map_sessions.specs.Visiting.{Place}
use Rattle.map_lists.specs.Committing.{Lists}
use Rattle.map_lists.specs.Requests.{ListData}
use Rattle.map_lists.specs.Telling.{outcome_data}
use Rattle.map_lists.specs.declared.committing.Outcome.{Outcome}

-- the list that the request asks for is committed whatever can be told, and what came of it is told
-- if there is memory for it
abbrev pub IsListed : {S : Type 0} → (S → Option Subject) → (Call → S → S → SaidData → Type 0)
    → Place → Option (List ℕ) → ListData → S → S → Result AnswerData NoMemory → Type 0
IsListed subject_of serves place asker request old new told =
    (outcome : Outcome) × Lists subject_of serves place asker request old new outcome
    × IfOk told (λ answer. answer ≡ outcome_data outcome)
