-- The documents of features that are exported.
use Rattle.std.specs.Prelude.{ℕ, List, [], ◌∷◌, ◌++◌, codes, Bool, true, false}
use Rattle.std.specs.List.{flat_map}
use Rattle.features.specs.declared.rows.Feature.{Feature}
use Rattle.grid.specs.declared.grids.Grid.{Grid}
use Rattle.feature_csv.specs.Rows.{row_text}
use Rattle.geojson.specs.Texts.{feature_text}
use Rattle.exchange.specs.declared.forms.Form.{Form}
use Rattle.exchange.specs.declared.forms.Form.TheVariants.{Collection, Sequence, Table}

-- what stands before all features
abbrev pub head_text : Form → List ℕ
head_text Collection = codes "{\"type\":\"FeatureCollection\",\"features\":[\n"
head_text Sequence = []
head_text Table = codes "id,version,office,class,WKT\n"

-- what stands before a feature: in a collection, a comma behind the one before
abbrev pub between_text : Form → Bool → List ℕ
between_text Collection false = codes ",\n"
between_text Collection true = []
between_text Sequence is_first = []
between_text Table is_first = []

-- a feature
abbrev pub own_text : Form → Grid → Feature → List ℕ
own_text Collection grid feature = feature_text grid feature
own_text Sequence grid feature = feature_text grid feature ++ codes "\n"
own_text Table grid feature = row_text grid feature

-- a feature, with what stands before it
abbrev pub piece_text : Form → Grid → Bool → Feature → List ℕ
piece_text form grid is_first feature = between_text form is_first ++ own_text form grid feature

-- what stands behind all features
abbrev pub tail_text : Form → List ℕ
tail_text Collection = codes "\n]}\n"
tail_text Sequence = []
tail_text Table = []

-- features, one after another
abbrev pub features_text : Form → Grid → List Feature → List ℕ
features_text form grid [] = []
features_text form grid (feature ∷ rest) =
    piece_text form grid true feature ++ flat_map (piece_text form grid false) rest

-- a whole document
abbrev pub document_text : Form → Grid → List Feature → List ℕ
document_text form grid features =
    head_text form ++ features_text form grid features ++ tail_text form
