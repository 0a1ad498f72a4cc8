-- Requests for how the server does.
use Rattle.std.specs.Prelude.{◌≡◌, ℕ, List, Option, Result, IfOk, MatchResult}
use Rattle.http.specs.declared.request.Request.{Request}
use Rattle.http_server.specs.declared.response.Response.{Response}
use Rattle.memory.specs.declared.no_memory.NoMemory.{NoMemory}
use Rattle.map_answers.specs.Answers.{AnswerData}
use Rattle.map_readings.specs.Reading.{metrics_data}
use Rattle.map_sessions.specs.Visiting.{Place}
use Rattle.map_http.specs.Asking.{asked, decline_data}
use Rattle.map_http.specs.Requests.{ByAction, TellsOf}
use Rattle.map_http.specs.declared.asking.Asked.{Asked}
use Rattle.map_http.specs.declared.asking.Decline.{Decline}
use Rattle.map_http.specs.declared.asking.Decline.TheVariants as declines
use Rattle.map_http.specs.declared.routes.Route.TheVariants as routes

-- the answer is the problem of this
abbrev pub IsDeclined : Decline → Result AnswerData NoMemory → Type 0
IsDeclined why outcome = IfOk outcome (λ answer. answer ≡ decline_data why)

-- who reads is answered by the text, where it is the reader; nothing is changed
abbrev pub IsWatched : Place → Option (List ℕ) → List ℕ → Asked → Result AnswerData NoMemory
    → Type 0
IsWatched place reader text asked outcome =
    ByAction asked.action
    (IfOk outcome (λ answer. answer ≡ metrics_data place reader asked.asker text))
    (λ method. IsDeclined declines.Method outcome)

-- what a request is answered: why it does not count; else what is read
abbrev pub RespondsWatching : Place → Option (List ℕ) → List ℕ → Request (List ℕ)
    → Result AnswerData NoMemory → Type 0
RespondsWatching place reader text request outcome =
    MatchResult (asked place request.head)
    (λ asked. IsWatched place reader text asked outcome)
    (λ why. IsDeclined why outcome)

-- the response tells of the answer to a request for how the server does
abbrev pub AnswersWatching : Place → Option (List ℕ) → List ℕ → Request (List ℕ) → Response
    → Type 0
AnswersWatching place reader text request response =
    (outcome : Result AnswerData NoMemory)
    × TellsOf place routes.Watching request.head outcome response
    × RespondsWatching place reader text request outcome
