-- The texts of answers.
use Rattle.std.specs.Prelude.{ℕ, List, ◌++◌, codes, decimal, Option, None, Some}
use Rattle.map_answers.specs.Strings.{string_text}

unfoldable pub no_rule : List ℕ
no_rule = codes "null"

-- the rule that decides; none where none applied
abbrev pub rule_text : Option (List ℕ) → List ℕ
rule_text None = no_rule
rule_text (Some name) = string_text name

unfoldable pub decision_part : List ℕ → List ℕ
decision_part decision = codes "{\"decision\":" ++ string_text decision

unfoldable pub rule_part : Option (List ℕ) → List ℕ
rule_part rule = codes ",\"rule\":" ++ rule_text rule

unfoldable pub edition_part : ℕ → List ℕ
edition_part edition = codes ",\"edition\":" ++ decimal edition ++ codes "}"

-- what the policy says: the decision, by which rule, and the edition of the policy
abbrev pub ruling_text : List ℕ → Option (List ℕ) → ℕ → List ℕ
ruling_text decision rule edition = decision_part decision ++ rule_part rule ++ edition_part edition

-- the edition that is in force
unfoldable pub edition_text : ℕ → List ℕ
edition_text edition = codes "{\"edition\":" ++ decimal edition ++ codes "}"

unfoldable pub piece_part : ℕ → List ℕ
piece_part piece = codes "{\"piece\":" ++ decimal piece

unfoldable pub records_part : ℕ → List ℕ
records_part records = codes ",\"records\":" ++ decimal records ++ codes "}"

-- the piece that was taken out, and how many records it has
abbrev pub taken_text : ℕ → ℕ → List ℕ
taken_text piece records = piece_part piece ++ records_part records

unfoldable pub trail_part : ℕ → List ℕ
trail_part piece = codes "/trail/" ++ decimal piece

-- where a piece is
abbrev pub piece_address : List ℕ → ℕ → List ℕ
piece_address base piece = base ++ trail_part piece

-- where in the body the fault is
unfoldable pub place_member : List ℕ → List ℕ
place_member place = codes ",\"place\":" ++ string_text place
