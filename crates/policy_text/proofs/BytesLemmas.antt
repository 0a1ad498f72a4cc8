-- The document of bytes that were read as a JSON value, and the fault of bytes that were not.
use Rattle.std.proofs.Common.{◌≡◌, ℕ, Bool, true, false, List, [], ◌∷◌, length, arith, IsUtf8, refl, ap, ◌∙◌, Option, Some, None, Result, Err}
use Rattle.std.specs.Str.{is_utf8}
use Rattle.std.specs.Option.{ok_or}
use Rattle.std.proofs.lemmas.Str.{IsUtf8-from_is_utf8, is_utf8-from_IsUtf8}
use Rattle.serde_json.specs.Data.{Data}
use Rattle.serde_json.specs.Read.{read}
use Rattle.serde_json.proofs.OnLiterals.{serde_json_on_literals}
use Rattle.memory.specs.JsonFault.{IsTextFault}
use Rattle.memory.specs.declared.json.JsonFault.{JsonFault}
use Rattle.memory.specs.declared.json.JsonFault.TheVariants as reasons
use Rattle.policy_documents.specs.Documents.{DocumentData}
use Rattle.policy_text.specs.Reading.{◌>>=◌, Fails, document_in, document_of}
use Rattle.policy_text.specs.Bytes.{document_of_bytes, json_fault}
use Rattle.policy_text.specs.declared.faults.TextFault.{TextFault}
use Rattle.policy_text.specs.declared.faults.TextFault.TheVariants as faults

of_read : Option Data → Result DocumentData TextFault
of_read o = ok_or o faults.NotJson >>= document_in

document_of-read : (bytes : List ℕ) (o : Option Data) → read bytes ≡ o → document_of bytes ≡ of_read o
unfolding document_of of_read
document_of-read bytes o told = ap (λ x. ok_or x faults.NotJson >>= document_in) told

-- bytes that are UTF-8 spell the document of their text
pub document_of_bytes-utf8 : (bytes : List ℕ) → IsUtf8 bytes → document_of_bytes bytes ≡ document_of bytes
document_of_bytes-utf8 bytes utf8 = rw (is_utf8-from_IsUtf8 bytes utf8) refl

-- bytes spell the document of the JSON value that they are read as
pub document_of_bytes-read : (bytes : List ℕ) (d : Data) → IsUtf8 bytes → read bytes ≡ Some d → document_of_bytes bytes ≡ document_in d
unfolding of_read
document_of_bytes-read bytes d utf8 told = document_of_bytes-utf8 bytes utf8 ∙ document_of-read bytes (Some d) told

unread : (bytes : List ℕ) → (IsUtf8 bytes → read bytes ≡ None) → document_of_bytes bytes ≡ Err faults.NotJson
unfolding of_read
unread bytes told = by_test (is_utf8 bytes) refl
  where
    by_test : (b : Bool) → is_utf8 bytes ≡ b → document_of_bytes bytes ≡ Err faults.NotJson
    by_test true test = rw test (document_of-read bytes None (told (IsUtf8-from_is_utf8 bytes test)))
    by_test false test = rw test refl

-- if no JSON value was read, it is out of memory, or the bytes are not JSON
pub json_fault-fails : (bytes : List ℕ) (e : JsonFault) → (IsTextFault e → IsUtf8 bytes → read bytes ≡ None) → Fails (json_fault e) (document_of_bytes bytes)
json_fault-fails bytes (reasons.Text error) told = unread bytes (told tt)
json_fault-fails bytes (reasons.Memory m) told = tt

-- the empty text is no JSON value
read-empty : (d : Data) → read [] ≡ Some d → ⊥
unfolding serde_json_on_literals
read-empty d told = cc

pub read-filled : {P : Type 0} (bytes : List ℕ) (d : Data) → length bytes ≡ 0 → read bytes ≡ Some d → P
read-filled [] d none told = absurd (read-empty d told)
read-filled (b ∷ bs) d none told = absurd (omega arith)
