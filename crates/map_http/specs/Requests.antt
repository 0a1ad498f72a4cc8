-- Requests of HTTP, and what they are answered.
use Rattle.std.specs.Prelude.{◌≡◌, ℕ, Bool, List, Option, None, Some, Result, IfOk, MatchResult}
use Rattle.http.specs.Request.{body_of}
use Rattle.http.specs.declared.request.Parts.{Parts}
use Rattle.http.specs.declared.request.Request.{Request}
use Rattle.http_server.specs.declared.response.Response.{Response}
use Rattle.http_uri.specs.Uri.{uri_path}
use Rattle.memory.specs.declared.no_memory.NoMemory.{NoMemory}
use Rattle.features.specs.declared.actors.Subject.{Subject}
use Rattle.map_answers.specs.Answers.{AnswerData}
use Rattle.map_questions.specs.declared.calls.Action.{Action}
use Rattle.map_questions.specs.declared.calls.Action.TheVariants.{Read, Change}
use Rattle.map_changes.specs.Requests.{RequestData}
use Rattle.map_changes.specs.declared.edits.Method.{Method}
use Rattle.map_edits.specs.Editing.{IsChanged}
use Rattle.session_lines.specs.Replies.{SaidData}
use Rattle.session_lines.specs.Services.{Call}
use Rattle.map_sessions.specs.Visiting.{IsAnswered, Place}
use Rattle.map_sessions.specs.Visiting as reading
use Rattle.map_sessions.specs.declared.kept.Kept.{Kept}
use Rattle.map_http.specs.Askers.{way_of}
use Rattle.map_http.specs.Asking.{asked, decline_data}
use Rattle.map_http.specs.Parts.{known_in, match_in, media_in, query_in}
use Rattle.map_http.specs.Responses.{Told}
use Rattle.map_http.specs.Routes.{allow_of}
use Rattle.map_http.specs.declared.asking.Asked.{Asked}
use Rattle.map_http.specs.declared.asking.Decline.{Decline}
use Rattle.map_http.specs.declared.asking.Decline.TheVariants as declines
use Rattle.map_http.specs.declared.routes.Route.{Route}
use Rattle.map_http.specs.declared.routes.Route.TheVariants.{Reading, Changing}

-- nothing is asked of the session, and the answer is the problem of this
abbrev pub Declines : {S : Type 0} → Decline → Result AnswerData NoMemory → S → S → Type 0
Declines why outcome service served =
    (served ≡ service) × IfOk outcome (λ answer. answer ≡ decline_data why)

-- the same, and what is kept stays
abbrev pub Refuses : {S K : Type 0} → Decline → Result AnswerData NoMemory → S → S → K → K → Type 0
Refuses why outcome service served old new = (new ≡ old) × Declines why outcome service served

-- by what a method does
abbrev pub ByAction : Action → Type 0 → (Method → Type 0) → Type 0
ByAction Read reads changes = reads
ByAction (Change method) reads changes = changes method

-- who asks to read is answered: a subject, or nobody
abbrev pub AnswersAsker : {S A : Type 0} → (S → Option Subject) → (Call → S → S → SaidData → Type 0)
    → Place → Parts → Option (List ℕ) → Result AnswerData NoMemory → S → S → Kept A → Kept A → Type 0
AnswersAsker subject_of serves place head asker outcome service served old new =
    IfOk outcome (λ answer. IsAnswered subject_of serves place asker (uri_path head.uri)
    (query_in head.uri) (known_in head.headers) service served old new answer)

-- what a request to read is answered: why it does not count; else the answer to its path and its
-- query, for who asks
abbrev pub RespondsReading : {S A : Type 0} → (S → Option Subject) → (Call → S → S → SaidData
    → Type 0) → Place → Parts → Result AnswerData NoMemory → S → S → Kept A → Kept A → Type 0
RespondsReading subject_of serves place head outcome service served old new =
    MatchResult (asked place head)
    (λ asked. AnswersAsker subject_of serves place head asked.asker outcome service served old new)
    (λ why. Refuses why outcome service served old new)

-- the request asks for a page of an answer that is kept
abbrev pub asks_kept : Place → Parts → Bool
asks_kept place head = reading.asks_kept place (uri_path head.uri) (query_in head.uri)

-- what a request to change says
abbrev pub change_request : Method → Request (List ℕ) → RequestData
change_request method request = record {
  method = method;
  path = uri_path request.head.uri;
  query = query_in request.head.uri;
  media = media_in request.head.headers;
  if_match = match_in request.head.headers;
  body = body_of request;
}

-- what a method that is asked for makes
abbrev pub Changes : {S : Type 0} → (S → Option Subject) → (Call → S → S → SaidData → Type 0)
    → Place → Asked → Request (List ℕ) → Result AnswerData NoMemory → S → S → Type 0
Changes subject_of serves place asked request outcome service served =
    ByAction asked.action (Declines declines.Method outcome service served)
    (λ method. IsChanged subject_of serves place asked.asker (change_request method request)
    service served outcome)

-- what a request to change is answered: why it does not count; else what comes of it
abbrev pub RespondsChanging : {S : Type 0} → (S → Option Subject) → (Call → S → S → SaidData
    → Type 0) → Place → Request (List ℕ) → Result AnswerData NoMemory → S → S → Type 0
RespondsChanging subject_of serves place request outcome service served =
    MatchResult (asked place request.head)
    (λ asked. Changes subject_of serves place asked request outcome service served)
    (λ why. Declines why outcome service served)

-- the response to a request tells of what it is answered
abbrev pub TellsOf : Place → Route → Parts → Result AnswerData NoMemory → Response → Type 0
TellsOf place route head outcome response =
    Told (way_of place) (allow_of route place.classes (uri_path head.uri)) outcome response

-- the response tells of the answer to a request to read
abbrev pub AnswersReading : {S A : Type 0} → (S → Option Subject) → (Call → S → S → SaidData
    → Type 0) → Place → Request (List ℕ) → S → S → Kept A → Kept A → Response → Type 0
AnswersReading subject_of serves place request service served old new response =
    (outcome : Result AnswerData NoMemory) × TellsOf place Reading request.head outcome response
    × RespondsReading subject_of serves place request.head outcome service served old new

-- the response tells of the answer to a request to change
abbrev pub AnswersChanging : {S : Type 0} → (S → Option Subject) → (Call → S → S → SaidData
    → Type 0) → Place → Request (List ℕ) → S → S → Response → Type 0
AnswersChanging subject_of serves place request service served response =
    (outcome : Result AnswerData NoMemory) × TellsOf place Changing request.head outcome response
    × RespondsChanging subject_of serves place request outcome service served
