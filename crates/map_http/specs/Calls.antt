-- Requests for the policy and the trail.
use Rattle.std.specs.Prelude.{ℕ, List, Option, Result, IfOk, MatchResult}
use Rattle.http.specs.Request.{body_of}
use Rattle.http.specs.declared.request.Request.{Request}
use Rattle.http_server.specs.declared.response.Response.{Response}
use Rattle.memory.specs.declared.no_memory.NoMemory.{NoMemory}
use Rattle.features.specs.declared.actors.Subject.{Subject}
use Rattle.map_answers.specs.Answers.{AnswerData}
use Rattle.map_calls.specs.Calling.{IsCalled}
use Rattle.map_questions.specs.Calls.{CallData}
use Rattle.map_questions.specs.declared.calls.Call.{Call}
use Rattle.map_calls.specs.declared.pieces.Pieces.{Pieces}
use Rattle.session_lines.specs.Replies.{SaidData}
use Rattle.session_lines.specs.Services as services
use Rattle.map_sessions.specs.Visiting.{Place}
use Rattle.map_http.specs.Asking.{asked}
use Rattle.map_http.specs.Parts.{media_in, query_in}
use Rattle.map_http.specs.Requests.{Refuses, TellsOf}
use Rattle.map_http.specs.declared.routes.Route.TheVariants.{Calling}

-- what a request says
abbrev pub call_request : Request (List ℕ) → CallData
call_request request = record {
  query = query_in request.head.uri;
  media = media_in request.head.headers;
  body = body_of request;
}

-- what a request is answered: why it does not count; else what its call is
abbrev pub RespondsCalling : {S A : Type 0} → (S → Option Subject) → (services.Call → S → S → SaidData
    → Type 0) → Place → Call → Request (List ℕ) → Result AnswerData NoMemory → S → S → Pieces A
    → Pieces A → Type 0
RespondsCalling subject_of serves place call request outcome service served old new =
    MatchResult (asked place request.head)
    (λ asked. IsCalled subject_of serves place asked.asker asked.action call (call_request request)
    service served old new outcome)
    (λ why. Refuses why outcome service served old new)

-- the response tells of the answer to a request for the policy or the trail
abbrev pub AnswersCalling : {S A : Type 0} → (S → Option Subject) → (services.Call → S → S → SaidData
    → Type 0) → Place → Call → Request (List ℕ) → S → S → Pieces A → Pieces A → Response → Type 0
AnswersCalling subject_of serves place call request service served old new response =
    (outcome : Result AnswerData NoMemory)
    × TellsOf place (Calling call) request.head outcome response
    × RespondsCalling subject_of serves place call request outcome service served old new
