-- A single feature.
use Rattle.std.specs.Prelude.{ℕ, ◌-◌, List, [], ◌++◌, None, Some, codes, length, take, if◌then◌else◌}
use Rattle.features.specs.declared.rows.Feature.{Feature}
use Rattle.grid.specs.declared.grids.Grid.{Grid}
use Rattle.map_asks.specs.declared.asks.Layer.{Layer}
use Rattle.geojson.specs.Texts.{feature_text}
use Rattle.map_answers.specs.Answers.{AnswerData}
use Rattle.map_answers.specs.Collections.{self_part}
use Rattle.map_answers.specs.Links.{collection_address, link_text}
use Rattle.map_answers.specs.Matching.{is_known}
use Rattle.map_answers.specs.declared.answers.MediaType.TheVariants.{Json, GeoJson}
use Rattle.map_answers.specs.declared.statuses.Status.TheVariants.{Success, NotModified}

-- a text without its last byte
abbrev pub opened : List ℕ → List ℕ
opened text = take (length text - 1) text

-- the link to a collection, behind another one
unfoldable pub collection_part : List ℕ → Layer → List ℕ
collection_part base layer =
    codes "," ++ link_text (codes "collection") Json (collection_address base layer)

-- the feature, with one more member: its links, where this is its address
abbrev pub item_text : Grid → List ℕ → List ℕ → Layer → Feature → List ℕ
item_text grid base address layer feature =
    opened (feature_text grid feature) ++ self_part address ++ collection_part base layer
    ++ codes "]}"

-- the answer: nothing but its tag where the client knows it
abbrev pub feature_data : List ℕ → Feature → List ℕ → AnswerData
feature_data known feature text = record {
  status = if is_known known feature.version then NotModified else Success;
  media = GeoJson;
  version = Some feature.version;
  location = None;
  retry_after = None;
  body = if is_known known feature.version then [] else text;
}
