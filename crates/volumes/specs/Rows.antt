-- Features, policies and records as rows of SQLite's tables.
use Rattle.std.specs.Prelude.{ℕ, ◌+◌, ◌-◌, ◌^◌, ℤ, pos, negsuc, nat_lt, not, Bool, List, [], ◌∷◌, ◌++◌, map, filter, if◌then◌else◌}
use Rattle.wkt.specs.Printing.{printed}
use Rattle.features.specs.declared.rows.Feature.{Feature}
use Rattle.policy_text.specs.Printed.{document_text}
use Rattle.decision.specs.Deciders.{DeciderData}
use Rattle.sqlite_value.specs.declared.value.Value.TheVariants.{Null, Int, Text}
use Rattle.sqlite_value.specs.Order.{Row}

-- a number of 64 bits as SQLite's signed integer: those from 2^63 on are n - 2^64
abbrev pub signed : ℕ → ℤ
signed n = if nat_lt n (2 ^ 63) then pos n else negsuc (2 ^ 64 - 1 - n)

-- a feature's row: its id is the rowid, so the id's own column is empty
abbrev pub row_of_feature : Feature → Row
row_of_feature f =
    Int (signed f.id) ∷ Null ∷ Int (signed f.version) ∷ Text f.office ∷ Text f.class
    ∷ Text (printed f.shape) ∷ []

-- its id is stored as a negative integer
abbrev pub is_high : Feature → Bool
is_high f = not (nat_lt f.id (2 ^ 63))

-- rows come by rowid, so the features with high ids come first
abbrev pub as_stored : List Feature → List Feature
as_stored features = filter is_high features ++ filter (λ f. nat_lt f.id (2 ^ 63)) features

-- the rows of all features
abbrev pub feature_rows : List Feature → List Row
feature_rows features = map row_of_feature (as_stored features)

-- the row of the last version, and of the policy in force with its edition
abbrev pub row_of_policy : ℕ → DeciderData → Row
row_of_policy version decider =
    Int (pos 1) ∷ Null ∷ Int (signed version) ∷ Int (signed decider.edition)
    ∷ Text (document_text decider.document) ∷ []

-- the row of a record's line
abbrev pub row_of_line : ℕ → List ℕ → Row
row_of_line number line = Int (pos number) ∷ Null ∷ Text line ∷ []

-- the row of a life, which is one run of a server or a script
abbrev pub row_of_life : ℕ → ℕ → List ℕ → Row
row_of_life life first subjects =
    Int (signed life) ∷ Null ∷ Int (pos first) ∷ Text subjects ∷ []

-- the rows of lines that are numbered from `number` on
abbrev pub rows_from : ℕ → List (List ℕ) → List Row
rows_from number [] = []
rows_from number (line ∷ lines) = row_of_line number line ∷ rows_from (number + 1) lines
