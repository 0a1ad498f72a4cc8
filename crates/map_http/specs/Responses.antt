-- Answers as responses of HTTP.
use Rattle.std.specs.Prelude.{ℕ, ◌⊎◌, ◌==◌, List, [], ◌∷◌, ◌++◌, length, codes, decimal, Option, None, Some, Result, Ok, Err, if◌then◌else◌}
use Rattle.http1.specs.Fields.{Header}
use Rattle.http_server.specs.Response.{IsResponse}
use Rattle.http_server.specs.declared.response.Response.{Response}
use Rattle.memory.specs.declared.no_memory.NoMemory.{NoMemory}
use Rattle.map_answers.specs.Answers.{AnswerData, media_text}
use Rattle.map_answers.specs.Matching.{tag_text}
use Rattle.map_answers.specs.Statuses.{number_of}
use Rattle.map_answers.specs.declared.answers.MediaType.{MediaType}
use Rattle.map_answers.specs.declared.statuses.Status.{Status}
use Rattle.map_answers.specs.declared.statuses.Status.TheVariants.{MethodNotAllowed, Unauthorized}
use Rattle.map_http.specs.declared.askers.Way.{Way}
use Rattle.map_http.specs.declared.askers.Way.TheVariants.{Nothing, Secret, Proxy}
use Rattle.map_http.specs.declared.routes.Allow.{Allow}
use Rattle.map_http.specs.declared.routes.Allow.TheVariants.{Read, Add, Edit, Post, Put, Piece}

-- the type of the body, where there is a body
abbrev pub media_fields : MediaType → ℕ → List Header
media_fields media len =
    if len == 0 then [] else (codes "content-type", media_text media) ∷ []

-- the entity tag of a feature (RFC 9110, 8.8.3)
abbrev pub tag_fields : Option ℕ → List Header
tag_fields None = []
tag_fields (Some version) = (codes "etag", tag_text version) ∷ []

-- in how many seconds to try again (10.2.3)
abbrev pub retry_fields : Option ℕ → List Header
retry_fields None = []
retry_fields (Some seconds) = (codes "retry-after", decimal seconds) ∷ []

-- the address of a feature that was added (10.2.2)
abbrev pub location_fields : Option (List ℕ) → List Header
location_fields None = []
location_fields (Some address) = (codes "location", address) ∷ []

unfoldable pub read_methods : List ℕ
read_methods = codes "GET, HEAD"

unfoldable pub add_methods : List ℕ
add_methods = codes "GET, HEAD, POST"

unfoldable pub edit_methods : List ℕ
edit_methods = codes "GET, HEAD, PUT, PATCH, DELETE"

unfoldable pub post_methods : List ℕ
post_methods = codes "POST"

unfoldable pub put_methods : List ℕ
put_methods = codes "PUT"

unfoldable pub piece_methods : List ℕ
piece_methods = codes "GET, HEAD, DELETE"

-- which methods a page has
abbrev pub allow_text : Allow → List ℕ
allow_text Read = read_methods
allow_text Add = add_methods
allow_text Edit = edit_methods
allow_text Post = post_methods
allow_text Put = put_methods
allow_text Piece = piece_methods

-- which methods there are, where another one was asked for (15.5.6)
abbrev pub allow_fields : Allow → Status → List Header
allow_fields allow MethodNotAllowed = (codes "allow", allow_text allow) ∷ []
allow_fields allow _ = []

unfoldable pub challenge_text : List ℕ
challenge_text = codes "Basic realm=\"landmap\", charset=\"UTF-8\""

-- how to say who asks, where it was not shown (15.5.2; RFC 7617, 2.1)
abbrev pub challenge_fields : Status → List Header
challenge_fields Unauthorized = (codes "www-authenticate", challenge_text) ∷ []
challenge_fields _ = []

unfoldable pub private_text : List ℕ
private_text = codes "private, no-cache"

-- the field by which a secret is said, and that by which a proxy says who asks
unfoldable pub secret_field : List ℕ
secret_field = codes "authorization"

unfoldable pub proxy_field : List ℕ
proxy_field = codes "landmap-subject"

-- an answer depends on this field (12.5.5), and is for who asks alone, who asks again before it is
-- used again (RFC 9111, 5.2.2.7 and 5.2.2.4)
abbrev pub own_fields_by : List ℕ → List Header
own_fields_by field = (codes "vary", field) ∷ (codes "cache-control", private_text) ∷ []

abbrev pub own_fields : Way → List Header
own_fields Nothing = []
own_fields Secret = own_fields_by secret_field
own_fields Proxy = own_fields_by proxy_field

-- a body is of the type that it is said to be, and of no other
abbrev pub sniff_fields : List Header
sniff_fields = (codes "x-content-type-options", codes "nosniff") ∷ []

-- what an answer says of what it is
abbrev pub entity_fields : AnswerData → List Header
entity_fields answer =
    media_fields answer.media (length answer.body) ++ tag_fields answer.version
    ++ location_fields answer.location

-- what it says of itself
abbrev pub content_fields : Allow → AnswerData → List Header
content_fields allow answer =
    entity_fields answer ++ retry_fields answer.retry_after ++ allow_fields allow answer.status

-- what it says of who asks, where it is said in one way who asks
abbrev pub asker_fields : Way → Status → List Header
asker_fields way status = challenge_fields status ++ own_fields way ++ sniff_fields

-- the fields of an answer
abbrev pub answer_fields : Way → Allow → AnswerData → List Header
answer_fields way allow answer =
    content_fields allow answer ++ asker_fields way answer.status

-- the response has the status, the fields and the body of the answer
abbrev pub Tells : Way → Allow → AnswerData → Response → Type 0
Tells way allow answer response =
    IsResponse (number_of answer.status) (answer_fields way allow answer) answer.body response

-- the response says no more than that there was no room for it
abbrev pub HasNoRoom : Response → Type 0
HasNoRoom response = IsResponse 503 [] [] response

-- the response tells of the answer, if there was one, or that there was no room
abbrev pub Told : Way → Allow → Result AnswerData NoMemory → Response → Type 0
Told way allow (Ok answer) response = Tells way allow answer response ⊎ HasNoRoom response
Told way allow (Err refused) response = HasNoRoom response
