-- Requests for calls: what is done, what is kept, and what is told.
use Rattle.std.specs.Prelude.{◌≡◌, ℕ, List, Option, None, Some, Result, IfOk}
use Rattle.std.specs.Bool.{MatchBool}
use Rattle.features.specs.declared.actors.Subject.{Subject}
use Rattle.memory.specs.declared.no_memory.NoMemory.{NoMemory}
use Rattle.map_answers.specs.Answers.{AnswerData}
use Rattle.map_asks.specs.Queries.{is_empty_query}
use Rattle.map_questions.specs.Calls.{CallData, task_of}
use Rattle.map_questions.specs.declared.calls.Action.{Action}
use Rattle.map_questions.specs.declared.calls.Call.{Call as Named}
use Rattle.map_questions.specs.declared.calls.Task.{Task}
use Rattle.map_questions.specs.declared.calls.Task.TheVariants as tasks
use Rattle.map_questions.specs.declared.calls.TrailTask.{TrailTask}
use Rattle.map_questions.specs.declared.calls.TrailTask.TheVariants as trail
use Rattle.session_lines.specs.Replies.{SaidData}
use Rattle.session_lines.specs.Services.{Call}
use Rattle.map_sessions.specs.Visiting.{Place}
use Rattle.map_calls.specs.Asking.{Explains}
use Rattle.map_calls.specs.Governing.{Governs}
use Rattle.map_calls.specs.Keeping.{PiecesData, pieces_data}
use Rattle.map_calls.specs.Rolling.{LetsGoFor, RollsFor, ShowsFor, StaysAs}
use Rattle.map_calls.specs.Telling.{outcome_data}
use Rattle.map_calls.specs.declared.outcomes.CallFault.TheVariants.{Method, Parameter}
use Rattle.map_calls.specs.declared.outcomes.Outcome.{Outcome}
use Rattle.map_calls.specs.declared.outcomes.Outcome.TheVariants.{Fault}
use Rattle.map_calls.specs.declared.pieces.Pieces.{Pieces}

-- what is to be done with the trail is done; pieces that are kept ask nothing of the session
abbrev pub Tends : {S A : Type 0} → (S → Option Subject) → (Call → S → S → SaidData → Type 0)
    → Place → Option (List ℕ) → TrailTask → S → S → PiecesData A → PiecesData A → Outcome → Type 0
Tends subject_of serves place asker trail.Roll old new kept left outcome =
    RollsFor subject_of serves place asker old new kept left outcome
Tends subject_of serves place asker (trail.Show number) old new kept left outcome =
    (new ≡ old) × (left ≡ kept) × ShowsFor place asker number kept outcome
Tends subject_of serves place asker (trail.LetGo number) old new kept left outcome =
    (new ≡ old) × LetsGoFor place asker number kept left outcome

-- the same, where there is no query
abbrev pub TendsTrail : {S A : Type 0} → (S → Option Subject) → (Call → S → S → SaidData → Type 0)
    → Place → Option (List ℕ) → TrailTask → List ℕ → S → S → PiecesData A → PiecesData A → Outcome
    → Type 0
TendsTrail subject_of serves place asker task query old new kept left outcome =
    MatchBool (is_empty_query query)
    (Tends subject_of serves place asker task old new kept left outcome)
    (StaysAs old new kept left outcome (Fault Parameter))

-- what a method does at a call is done; nothing is where the call has not this method
abbrev pub CarriesOut : {S A : Type 0} → (S → Option Subject) → (Call → S → S → SaidData → Type 0)
    → Place → Option (List ℕ) → Option Task → CallData → S → S → PiecesData A → PiecesData A
    → Outcome → Type 0
CarriesOut subject_of serves place asker None request old new kept left outcome =
    StaysAs old new kept left outcome (Fault Method)
CarriesOut subject_of serves place asker (Some tasks.Explain) request old new kept left outcome =
    (left ≡ kept) × Explains subject_of serves place asker request old new outcome
CarriesOut subject_of serves place asker (Some tasks.Govern) request old new kept left outcome =
    (left ≡ kept) × Governs subject_of serves place asker request old new outcome
CarriesOut subject_of serves place asker (Some (tasks.Trail task)) request old new kept left
    outcome =
    TendsTrail subject_of serves place asker task request.query old new kept left outcome

-- what a method does at a call is done whatever can be told, and told if there is memory for it
abbrev pub IsCalled : {S A : Type 0} → (S → Option Subject) → (Call → S → S → SaidData → Type 0)
    → Place → Option (List ℕ) → Action → Named → CallData → S → S → Pieces A → Pieces A
    → Result AnswerData NoMemory → Type 0
IsCalled subject_of serves place asker action call request old new kept left told =
    (outcome : Outcome)
    × CarriesOut subject_of serves place asker (task_of action call) request old new
    (pieces_data kept) (pieces_data left) outcome
    × IfOk told (λ answer. answer ≡ outcome_data place.base outcome)
