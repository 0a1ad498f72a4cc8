-- Records as JSON (RFC 8259).
use Rattle.std.specs.Prelude.{ℕ, ◌+◌, List, [], ◌∷◌, map, codes, Option, None, Some}
use Rattle.serde_json.specs.Data.{Data, unsigned, null, number, string, array, object, Members, no_members, put}
use Rattle.serde_json.specs.View.{items_of}
use Rattle.serde_json.specs.Written.{compact_text}
use Rattle.wkt.specs.Printing.{printed}
use Rattle.plane.specs.declared.point.Point.{Point}
use Rattle.features.specs.declared.actors.Subject.{Subject}
use Rattle.features.specs.declared.rows.Change.{Change}
use Rattle.features.specs.declared.rows.Change.TheVariants.{Add, Reshape, Delete}
use Rattle.policy_documents.specs.Documents.{IsDocument}
use Rattle.policy_text.specs.Printed.{document_data}
use Rattle.judging.specs.declared.causes.Cause.{Cause}
use Rattle.judging.specs.declared.causes.Cause.TheVariants.{Denied, Exists, Absent, Stale}
use Rattle.audit_trail.specs.Records.{DeedData, answered, applied, turned_away, governed, RecordData}

-- the fields of an object: keys with values
abbrev pub Fields : Type 0
Fields = List (List ℕ × Data)

-- the members after these fields are put; the keys stay sorted, whatever the order of the fields
abbrev pub with_fields : Members → Fields → Members
with_fields ms [] = ms
with_fields ms (field ∷ fields) = with_fields (put field.0 field.1 ms) fields

-- the object of these fields
abbrev pub object_of : Fields → Data
object_of fields = object (with_fields no_members fields)

abbrev pub numeral : ℕ → Data
numeral n = number (unsigned n)

-- a change has what it does, its id, and, if it has them, class, shape and the version seen
abbrev pub change_fields : Change → Fields
change_fields (Add id class shape) =
    (codes "what", string (codes "add")) ∷ (codes "id", numeral id) ∷ (codes "class", string class)
    ∷ (codes "shape", string (printed shape)) ∷ []
change_fields (Reshape id seen shape) =
    (codes "what", string (codes "reshape")) ∷ (codes "id", numeral id)
    ∷ (codes "version", numeral seen) ∷ (codes "shape", string (printed shape)) ∷ []
change_fields (Delete id seen) =
    (codes "what", string (codes "delete")) ∷ (codes "id", numeral id)
    ∷ (codes "version", numeral seen) ∷ []

abbrev pub change_data : Change → Data
change_data change = object_of (change_fields change)

abbrev pub changes_data : List Change → Data
changes_data changes = array (items_of (map change_data changes))

abbrev pub numbers_data : List ℕ → Data
numbers_data ns = array (items_of (map numeral ns))

-- a rule's number, or null without one
abbrev pub rule_data : Option ℕ → Data
rule_data None = null
rule_data (Some rule) = numeral rule

-- a denial has its rule, and a stale change the present version
abbrev pub cause_fields : Cause → Fields
cause_fields (Denied rule) = (codes "cause", string (codes "denied"))
    ∷ (codes "rule", rule_data rule) ∷ []
cause_fields Exists = (codes "cause", string (codes "exists")) ∷ []
cause_fields Absent = (codes "cause", string (codes "absent")) ∷ []
cause_fields (Stale current) =
    (codes "cause", string (codes "stale")) ∷ (codes "current", numeral current) ∷ []

-- an answer has no versions of its rows
abbrev pub answer_fields : Subject → List Point → List ℕ → Fields
answer_fields subject window ids =
    (codes "kind", string (codes "answered")) ∷ (codes "subject", string subject.name)
    ∷ (codes "window", string (printed window)) ∷ (codes "ids", numbers_data ids) ∷ []

abbrev pub deed_fields : DeedData → Fields
deed_fields (answered subject window ids versions) = answer_fields subject window ids
deed_fields (applied subject version changes) =
    (codes "kind", string (codes "applied")) ∷ (codes "subject", string subject.name)
    ∷ (codes "version", numeral version) ∷ (codes "changes", changes_data changes) ∷ []
deed_fields (turned_away subject changes refusal) =
    (codes "kind", string (codes "refused")) ∷ (codes "subject", string subject.name)
    ∷ (codes "changes", changes_data changes) ∷ (codes "change", numeral refusal.change)
    ∷ cause_fields refusal.cause
deed_fields (governed edition decider) =
    (codes "kind", string (codes "governed")) ∷ (codes "edition", numeral edition)
    ∷ (codes "document", document_data decider.document) ∷ []

-- a record with its number
abbrev pub line_fields : ℕ → RecordData → Fields
line_fields n r = (codes "number", numeral n) ∷ (codes "seat", numeral r.seat) ∷ deed_fields r.deed

abbrev pub line_of : ℕ → RecordData → Data
line_of n r = object_of (line_fields n r)

-- the text of a record: JSON without spaces, the keys of each object sorted
abbrev pub line_text : ℕ → RecordData → List ℕ
line_text n r = compact_text (line_of n r)

-- the lines of these records, numbered from `n` on
abbrev pub lines_from : ℕ → List RecordData → List (List ℕ)
lines_from n [] = []
lines_from n (r ∷ rs) = line_text n r ∷ lines_from (n + 1) rs

-- if the deed puts a document in force, it is a valid document
abbrev pub IsDocumented : DeedData → Type 0
IsDocumented (answered subject window ids versions) = Unit {0}
IsDocumented (applied subject version changes) = Unit {0}
IsDocumented (turned_away subject changes refusal) = Unit {0}
IsDocumented (governed edition decider) = IsDocument decider.document
