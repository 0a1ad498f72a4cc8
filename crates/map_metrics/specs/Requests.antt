-- Requests, by the status of their response.
use Rattle.std.specs.Prelude.{ℕ, List, [], ◌∷◌, ◌++◌, Option, codes, decimal, nat_eq}
use Rattle.std.specs.List.{position}
use Rattle.map_answers.specs.Statuses.{number_of}
use Rattle.map_answers.specs.declared.statuses.Status.{Status}
use Rattle.map_answers.specs.declared.statuses.Status.TheVariants.{Success, Created, NoContent, NotModified, BadRequest, Unauthorized, Forbidden, NotFound, MethodNotAllowed, Conflict, Gone, PreconditionFailed, UnsupportedMedia, MisdirectedRequest, Unprocessable, PreconditionRequired, Internal, Unavailable, InsufficientStorage}

-- all statuses, by rising number
abbrev pub statuses : List Status
statuses =
    Success ∷ Created ∷ NoContent ∷ NotModified ∷ BadRequest ∷ Unauthorized ∷ Forbidden ∷ NotFound
    ∷ MethodNotAllowed ∷ Conflict ∷ Gone ∷ PreconditionFailed ∷ UnsupportedMedia
    ∷ MisdirectedRequest ∷ Unprocessable ∷ PreconditionRequired ∷ Internal ∷ Unavailable
    ∷ InsufficientStorage ∷ []

-- where the status of a number stands among them
abbrev pub place_of : ℕ → Option ℕ
place_of number = position (λ status. nat_eq (number_of status) number) statuses

-- what the family is
unfoldable pub requests_head : List ℕ
requests_head = codes "# HELP landmap_http_requests_total Requests of HTTP, by the status of their response.\n# TYPE landmap_http_requests_total counter\n"

unfoldable pub status_front : List ℕ
status_front = codes "landmap_http_requests_total{status=\""

-- how many responses there were of a status
abbrev pub status_line : Status → ℕ → List ℕ
status_line status count =
    status_front ++ decimal (number_of status) ++ codes "\"} " ++ decimal count ++ codes "\n"

-- the same of each of these statuses, which have these counts
abbrev pub status_lines : List Status → List ℕ → List ℕ
status_lines [] counts = []
status_lines (status ∷ rest) [] = []
status_lines (status ∷ rest) (count ∷ counts) = status_line status count ++ status_lines rest counts

-- the family
abbrev pub requests_text : List ℕ → List ℕ
requests_text counts = requests_head ++ status_lines statuses counts
