-- The JSON value that a text is (RFC 8259).
use Rattle.std.specs.Prelude.{◌≡◌, ℕ, List, ok_or, Result, Ok, Err, MatchBool, ⊤, if◌then◌else◌}
use Rattle.std.specs.Str.{is_utf8}
use Rattle.json.specs.Json.{Json, document}
use Rattle.json.specs.Value.{value_view}
use Rattle.json.specs.declared.value.Value.{Value}
use Rattle.geojson.specs.Faults.{is_memory}
use Rattle.geojson.specs.declared.faults.Cause.{Cause}
use Rattle.geojson.specs.declared.faults.Cause.TheVariants.{NotJson}

-- the value of a text, which is UTF-8
unfoldable pub json_in : List ℕ → Result Json Cause
json_in text = if is_utf8 text then ok_or (document text) NotJson else Err NotJson

-- the value of the text was read, or it has none, or an allocation was refused
abbrev pub ReadsJson : {A : Type 0} → List ℕ → Result (Value A) Cause → Type 0
ReadsJson text (Ok value) = json_in text ≡ Ok (value_view value)
ReadsJson text (Err cause) = MatchBool (is_memory cause) ⊤ (json_in text ≡ Err cause)
