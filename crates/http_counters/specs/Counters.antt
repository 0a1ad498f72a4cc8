-- What a request is answered by a session, where what is kept and counted is shared with others.
use Rattle.std.specs.Prelude.{◌≡◌, ℕ, List, [], Option, is_some}
use Rattle.std.specs.declared.alloc.Global.{Global}
use Rattle.http.specs.declared.request.Request.{Request}
use Rattle.http_server.specs.declared.response.Response.{Response}
use Rattle.http_uri.specs.Uri.{uri_path}
use Rattle.features.specs.declared.actors.Subject.{Subject}
use Rattle.map_calls.specs.declared.pieces.Pieces.{Pieces}
use Rattle.map_http.specs.Calls.{AnswersCalling}
use Rattle.map_http.specs.Lists.{AnswersListing}
use Rattle.map_http.specs.Requests.{AnswersChanging, AnswersReading}
use Rattle.map_http.specs.Routes.{route_of}
use Rattle.map_http.specs.Watching.{AnswersWatching}
use Rattle.map_http.specs.declared.routes.Route.{Route}
use Rattle.map_http.specs.declared.routes.Route.TheVariants.{Reading, Changing, Listing, Watching, Calling}
use Rattle.map_metrics.specs.Metrics.{metrics_text}
use Rattle.map_metrics.specs.declared.readings.Readings.{Readings}
use Rattle.map_sessions.specs.Visiting.{Place}
use Rattle.map_sessions.specs.declared.kept.Kept.{Kept}
use Rattle.session_lines.specs.Replies.{SaidData}
use Rattle.session_lines.specs.Services.{Call}

-- where it is read what is counted, this is the text of some counts
abbrev pub IsTextFor : Route → List ℕ → Type 0
IsTextFor Watching text = (readings : Readings) × (text ≡ metrics_text readings)
IsTextFor _ text = text ≡ []

-- the request is answered at this route: by the answers, or the pieces, that are kept when its turn
-- comes, or with no answer kept; or by some counts
abbrev pub AnswersAt : {S : Type 0} → (M : Type 0) → (S → Option Subject) → (Call → S → S → SaidData
    → Type 0) → Place → Option (List ℕ) → Route → Request (List ℕ) → S → S → Response → Type 0
AnswersAt M subject_of serves place reader Reading request served after response =
    (kept : Kept Global) × (left : Kept Global)
    × AnswersReading subject_of serves place request served after kept left response
AnswersAt M subject_of serves place reader Changing request served after response =
    AnswersChanging subject_of serves place request served after response
AnswersAt M subject_of serves place reader Listing request served after response =
    AnswersListing subject_of serves place request served after response
AnswersAt M subject_of serves place reader Watching request served after response =
    (after ≡ served) × (text : List ℕ) × IsTextFor Watching text
    × AnswersWatching place reader text request response
AnswersAt M subject_of serves place reader (Calling call) request served after response =
    (kept : Pieces M) × (left : Pieces M)
    × AnswersCalling subject_of serves place call request served after kept left response

-- the route of a request
abbrev pub route_at : Option (List ℕ) → Request (List ℕ) → Route
route_at reader request =
    route_of (is_some reader) request.head.method (uri_path request.head.uri)

-- the request is answered at its route
abbrev pub AnswersAtCounter : {S : Type 0} → (M : Type 0) → (S → Option Subject) → (Call → S → S
    → SaidData → Type 0) → Place → Option (List ℕ) → Request (List ℕ) → S → S → Response → Type 0
AnswersAtCounter M subject_of serves place reader request served after response =
    AnswersAt M subject_of serves place reader (route_at reader request) request served after response
