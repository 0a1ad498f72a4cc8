-- Members of problems that tell of a change.
use Rattle.std.specs.Prelude.{ℕ, List, [], ◌++◌, codes, decimal, Option, None, Some}
use Rattle.geojson.specs.Pointers.{pointer_of}
use Rattle.geojson.specs.declared.faults.FeatureFault.{FeatureFault}
use Rattle.geojson.specs.declared.faults.Spot.{Spot}
use Rattle.map_answers.specs.Strings.{string_text}

-- one more part of a JSON pointer (RFC 6901, 3)
unfoldable pub index_part : ℕ → List ℕ
index_part n = codes "/" ++ decimal n

abbrev pub index_text : Option ℕ → List ℕ
index_text None = []
index_text (Some n) = index_part n

abbrev pub spot_text : Spot → List ℕ
spot_text spot =
    index_text spot.polygon ++ index_text spot.path ++ index_text spot.point ++ index_text spot.axis

-- where in a text of GeoJSON a fault is
abbrev pub place_text : FeatureFault → List ℕ
place_text fault = pointer_of fault.member ++ spot_text fault.spot

-- where in the body the fault is
unfoldable pub place_member : List ℕ → List ℕ
place_member place = codes ",\"place\":" ++ string_text place

unfoldable pub no_rule : List ℕ
no_rule = codes "null"

abbrev pub rule_text : Option (List ℕ) → List ℕ
rule_text None = no_rule
rule_text (Some name) = string_text name

-- the rule that decides; none where none applied
unfoldable pub rule_member : Option (List ℕ) → List ℕ
rule_member rule = codes ",\"rule\":" ++ rule_text rule

-- the version that the feature has
unfoldable pub current_member : ℕ → List ℕ
current_member version = codes ",\"current\":" ++ decimal version
