-- A text that is read as JSON, and one that is not.
use Rattle.std.proofs.Common.{◌≡◌, ℕ, Bool, true, false, List, Option, None, Some, Result, Ok, Err, IsUtf8, refl, ap, ◌∙◌}
use Rattle.std.specs.Bool.{MatchBool, ⊤}
use Rattle.std.specs.Prelude.{◌≢◌, ok_or}
use Rattle.std.specs.Str.{is_utf8}
use Rattle.std.proofs.lemmas.Str.{IsUtf8-from_is_utf8, is_utf8-from_IsUtf8}
use Rattle.json.specs.Json.{Json, document}
use Rattle.json.specs.declared.error.Error.{Error}
use Rattle.json.specs.declared.error.Error.TheVariants as errors
use Rattle.grid.specs.declared.grids.Grid.{Grid}
use Rattle.geojson.specs.declared.faults.Cause.{Cause}
use Rattle.geojson.specs.declared.faults.Cause.TheVariants as causes
use Rattle.geojson.specs.declared.faults.Member.TheVariants as places
use Rattle.geojson.specs.declared.given.Wished.{Wished}
use Rattle.geojson.specs.Documents.{json_in}
use Rattle.geojson.specs.Faults.{fault_at, is_memory, unread_cause, ◌>>=◌}
use Rattle.geojson.specs.Given.{feature_in, feature_read, in_text}
use Rattle.geojson.proofs.Lists.{go-told}

abbrev of_document : Option Json → Result Json Cause
of_document found = ok_or found causes.NotJson

read_utf8 : (text : List ℕ) → IsUtf8 text → json_in text ≡ of_document (document text)
unfolding json_in
read_utf8 text utf8 = rw (is_utf8-from_IsUtf8 text utf8) refl

-- a text that is JSON
pub document_read : (text : List ℕ) (j : Json) → IsUtf8 text → document text ≡ Some j → json_in text ≡ Ok j
document_read text j utf8 is = read_utf8 text utf8 ∙ ap of_document is

-- a text that is not
no_document : (text : List ℕ) → (IsUtf8 text → document text ≡ None) → json_in text ≡ Err causes.NotJson
unfolding json_in
no_document text told = by_test (is_utf8 text) refl
  where
    by_test : (b : Bool) → is_utf8 text ≡ b → json_in text ≡ Err causes.NotJson
    by_test true test =
        let utf8 : IsUtf8 text = IsUtf8-from_is_utf8 text test in
        read_utf8 text utf8 ∙ ap of_document (told utf8)
    by_test false test = rw test refl

-- no value was read
pub unread_told : {V : Type 0} (text : List ℕ) (r : Result V Error) (error : Error) → r ≡ Err error
    → (r ≡ Err errors.Invalid → IsUtf8 text → document text ≡ None) → r ≢ Err errors.TooLong → r ≢ Err errors.DuplicateKey
    → MatchBool (is_memory (unread_cause error)) ⊤ (json_in text ≡ Err (unread_cause error))
unread_told text r errors.Invalid is invalid long twice = no_document text (invalid is)
unread_told text r errors.OutOfMemory is invalid long twice = tt
unread_told text r errors.TooLong is invalid long twice = absurd (long is)
unread_told text r errors.DuplicateKey is invalid long twice = absurd (twice is)

-- a feature is read from the value of its text
pub text_read : (grid : Grid) (wished : Wished) (text : List ℕ) (j : Json) → json_in text ≡ Ok j
    → feature_read grid wished text ≡ feature_in grid wished j
unfolding feature_read
text_read grid wished text j is = ap (λ r. in_text r >>= feature_in grid wished) is

-- a text without a value is no feature
pub text_fault : (grid : Grid) (wished : Wished) (text : List ℕ) (cause : Cause) → MatchBool (is_memory cause) ⊤ (json_in text ≡ Err cause)
    → MatchBool (is_memory cause) ⊤ (feature_read grid wished text ≡ Err (fault_at places.Text cause))
unfolding feature_read
text_fault grid wished text cause told =
    go-told (is_memory cause) (json_in text ≡ Err cause) (feature_read grid wished text ≡ Err (fault_at places.Text cause))
    (λ e. ap (λ r. in_text r >>= feature_in grid wished) e) told
