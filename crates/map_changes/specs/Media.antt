-- The type of a body: the field `content-type` (RFC 9110, 8.3).
use Rattle.std.specs.Prelude.{ℕ, ◌==◌, ◌&&◌, ◌||◌, Bool, true, not, List, take, codes}
use Rattle.std.specs.List.{prefix_len}
use Rattle.std.specs.Str.{str_eq_ignore_ascii_case}
use Rattle.map_changes.specs.declared.edits.Method.{Method}
use Rattle.map_changes.specs.declared.edits.Method.TheVariants.{Post, Put, Patch, Delete}

-- a type ends before a semicolon, a space or a tab (5.6.6)
abbrev pub is_type_byte : ℕ → Bool
is_type_byte b = not (b == 59) && not (b == 32) && not (b == 9)

-- the type at the front of a field, without its parameters
abbrev pub media_type : List ℕ → List ℕ
media_type field = take (prefix_len is_type_byte field) field

-- the type of JSON (RFC 8259, 11)
unfoldable pub is_json_type : List ℕ → Bool
is_json_type media = str_eq_ignore_ascii_case media (codes "application/json")

-- the type of GeoJSON (RFC 7946, 12), or of JSON
unfoldable pub is_document : List ℕ → Bool
is_document media =
    str_eq_ignore_ascii_case media (codes "application/geo+json") || is_json_type media

-- a field names the type of JSON
abbrev pub is_json : List ℕ → Bool
is_json field = is_json_type (media_type field)

-- the type of a part to be merged (RFC 7396, 4)
unfoldable pub is_part : List ℕ → Bool
is_part media = str_eq_ignore_ascii_case media (codes "application/merge-patch+json")

-- a method reads a body of the type that a field names; the body of `DELETE` is not looked at
abbrev pub is_read_by : Method → List ℕ → Bool
is_read_by Post field = is_document (media_type field)
is_read_by Put field = is_document (media_type field)
is_read_by Patch field = is_document (media_type field) || is_part (media_type field)
is_read_by Delete field = true
