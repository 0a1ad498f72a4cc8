-- Lists of changes, posted.
use Rattle.std.specs.Prelude.{ℕ, List, Option, Result, MatchResult}
use Rattle.http.specs.Request.{body_of}
use Rattle.http.specs.declared.request.Request.{Request}
use Rattle.http_server.specs.declared.response.Response.{Response}
use Rattle.memory.specs.declared.no_memory.NoMemory.{NoMemory}
use Rattle.features.specs.declared.actors.Subject.{Subject}
use Rattle.map_answers.specs.Answers.{AnswerData}
use Rattle.map_questions.specs.declared.calls.Action.{Action}
use Rattle.map_questions.specs.declared.calls.Action.TheVariants.{Read, Change}
use Rattle.map_changes.specs.declared.edits.Method.TheVariants as methods
use Rattle.map_lists.specs.Listing.{IsListed}
use Rattle.map_lists.specs.Requests.{ListData}
use Rattle.session_lines.specs.Replies.{SaidData}
use Rattle.session_lines.specs.Services.{Call}
use Rattle.map_sessions.specs.Visiting.{Place}
use Rattle.map_http.specs.Asking.{asked}
use Rattle.map_http.specs.Parts.{media_in, query_in}
use Rattle.map_http.specs.Requests.{Declines, TellsOf}
use Rattle.map_http.specs.declared.asking.Asked.{Asked}
use Rattle.map_http.specs.declared.asking.Decline.TheVariants as declines
use Rattle.map_http.specs.declared.routes.Route.TheVariants.{Listing}

-- what a request with a list says
abbrev pub list_request : Request (List ℕ) → ListData
list_request request = record {
  query = query_in request.head.uri;
  media = media_in request.head.headers;
  body = body_of request;
}

-- a list is posted
abbrev pub ByPost : Action → Type 0 → Type 0 → Type 0
ByPost (Change methods.Post) posts others = posts
ByPost _ posts others = others

-- what comes of a method that is asked for
abbrev pub Lists : {S : Type 0} → (S → Option Subject) → (Call → S → S → SaidData → Type 0)
    → Place → Asked → Request (List ℕ) → Result AnswerData NoMemory → S → S → Type 0
Lists subject_of serves place asked request outcome service served =
    ByPost asked.action
    (IsListed subject_of serves place asked.asker (list_request request) service served outcome)
    (Declines declines.Method outcome service served)

-- what a request with a list is answered: why it does not count; else what comes of it
abbrev pub RespondsListing : {S : Type 0} → (S → Option Subject) → (Call → S → S → SaidData
    → Type 0) → Place → Request (List ℕ) → Result AnswerData NoMemory → S → S → Type 0
RespondsListing subject_of serves place request outcome service served =
    MatchResult (asked place request.head)
    (λ asked. Lists subject_of serves place asked request outcome service served)
    (λ why. Declines why outcome service served)

-- the response tells of the answer to a request with a list
abbrev pub AnswersListing : {S : Type 0} → (S → Option Subject) → (Call → S → S → SaidData
    → Type 0) → Place → Request (List ℕ) → S → S → Response → Type 0
AnswersListing subject_of serves place request service served response =
    (outcome : Result AnswerData NoMemory) × TellsOf place Listing request.head outcome response
    × RespondsListing subject_of serves place request outcome service served
