-- A page of features, as a FeatureCollection (RFC 7946, section 3.3) with the links and numbers of
-- OGC API - Features (Part 1, section 7.15).
use Rattle.std.specs.Prelude.{ℕ, List, [], ◌∷◌, ◌++◌, Option, None, Some, codes, decimal, length}
use Rattle.std.specs.List.{flat_map}
use Rattle.features.specs.declared.rows.Feature.{Feature}
use Rattle.grid.specs.declared.grids.Grid.{Grid}
use Rattle.geojson.specs.Texts.{feature_text}
use Rattle.map_asks.specs.declared.asks.Layer.{Layer}
use Rattle.map_answers.specs.Links.{link_text, next_address}
use Rattle.map_answers.specs.Rows.{page, next_after}
use Rattle.map_answers.specs.declared.answers.MediaType.TheVariants.{GeoJson}
use Rattle.map_answers.specs.declared.collections.FeaturePage.{FeaturePage}

-- a feature that is not the first
abbrev pub following_feature : Grid → Feature → List ℕ
following_feature grid row = codes "," ++ feature_text grid row

-- features with commas between them
abbrev pub features_text : Grid → List Feature → List ℕ
features_text grid [] = []
features_text grid (row ∷ rows) =
    feature_text grid row ++ flat_map (following_feature grid) rows

-- the parts of a page: how many features were asked for, how many it has, where it is, its features
unfoldable pub matched_part : ℕ → List ℕ
matched_part count = codes "{\"type\":\"FeatureCollection\",\"numberMatched\":" ++ decimal count

unfoldable pub returned_part : ℕ → List ℕ
returned_part count = codes ",\"numberReturned\":" ++ decimal count

unfoldable pub self_part : List ℕ → List ℕ
self_part address = codes ",\"links\":[" ++ link_text (codes "self") GeoJson address

unfoldable pub features_part : Grid → List Feature → List ℕ
features_part grid rows = codes "],\"features\":[" ++ features_text grid rows ++ codes "]}"

-- the link to the page that begins behind an id
abbrev pub next_link : List ℕ → Layer → Option ℕ → Option ℕ → ℕ → List ℕ
next_link base layer None after limit = []
next_link base layer (Some kept) None limit = []
next_link base layer (Some kept) (Some after) limit =
    codes "," ++ link_text (codes "next") GeoJson (next_address base layer kept after limit)

-- the same, where the rows are kept and some are left for a next page
abbrev pub next_text : List ℕ → Layer → Option ℕ → Option ℕ → ℕ → List Feature → List ℕ
next_text base layer kept after limit rows =
    next_link base layer kept (next_after after limit rows) limit

-- a page, as it is asked for: the address of the server and of the page, the collection, all that
-- was asked for of it, the number under which that is kept, the id behind which the page begins, and
-- how many features it has at most
pub record PageData : Type 0 where
  pub base : List ℕ
  pub address : List ℕ
  pub layer : Layer
  pub rows : List Feature
  pub kept : Option ℕ
  pub after : Option ℕ
  pub limit : ℕ

abbrev pub page_data : FeaturePage → PageData
page_data asked = record {
  base = asked.base.now;
  address = asked.address.now;
  layer = asked.layer;
  rows = asked.rows.now;
  kept = asked.kept;
  after = asked.after;
  limit = asked.limit;
}

-- the features of a page
abbrev pub page_rows : PageData → List Feature
page_rows asked = page asked.after asked.limit asked.rows

-- a page: how many features were asked for, how many it has, where it is, where the next one is,
-- and its features
abbrev pub page_text : Grid → PageData → List ℕ
page_text grid asked =
    matched_part (length asked.rows) ++ returned_part (length (page_rows asked))
    ++ self_part asked.address
    ++ next_text asked.base asked.layer asked.kept asked.after asked.limit asked.rows
    ++ features_part grid (page_rows asked)
