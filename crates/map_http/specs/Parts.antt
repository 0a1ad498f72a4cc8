-- Parts of requests.
use Rattle.std.specs.Prelude.{ℕ, ◌||◌, Bool, List, [], codes, Option, None, Some, option_map, unwrap_or, if◌then◌else◌}
use Rattle.std.specs.Str.{bytes_eq}
use Rattle.http_header.specs.FieldValue.{FieldValue}
use Rattle.http_header.specs.HeaderMap.{Entries, get}
use Rattle.http_uri.specs.Uri.{uri_query}
use Rattle.http_uri.specs.declared.uri.Uri.{Uri}
use Rattle.map_questions.specs.declared.calls.Action.{Action}
use Rattle.map_questions.specs.declared.calls.Action.TheVariants.{Read, Change}
use Rattle.map_changes.specs.declared.edits.Method.{Method}
use Rattle.map_changes.specs.declared.edits.Method.TheVariants as methods

-- a method that only reads
abbrev pub is_read : List ℕ → Bool
is_read method = bytes_eq method (codes "GET") || bytes_eq method (codes "HEAD")

-- a method that changes
abbrev pub change_method : List ℕ → Option Method
change_method method =
    if bytes_eq method (codes "POST") then Some methods.Post
    else if bytes_eq method (codes "PUT") then Some methods.Put
    else if bytes_eq method (codes "PATCH") then Some methods.Patch
    else if bytes_eq method (codes "DELETE") then Some methods.Delete
    else None

-- what a method does, if it is served
abbrev pub action_of : List ℕ → Option Action
action_of method =
    if is_read method then Some Read else option_map (λ changing. Change changing) (change_method method)

-- the query of an address; empty where there is none
abbrev pub query_in : Uri → List ℕ
query_in uri = unwrap_or (uri_query uri) []

abbrev pub value_bytes : Option FieldValue → List ℕ
value_bytes None = []
value_bytes (Some value) = value.bytes

-- the field `if-none-match`, and others that changes have; empty where there is none
abbrev pub known_in : Entries FieldValue → List ℕ
known_in fields = value_bytes (get fields (codes "if-none-match"))

abbrev pub match_in : Entries FieldValue → List ℕ
match_in fields = value_bytes (get fields (codes "if-match"))

abbrev pub media_in : Entries FieldValue → List ℕ
media_in fields = value_bytes (get fields (codes "content-type"))
