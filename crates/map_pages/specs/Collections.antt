-- The collections (OGC API - Features, Part 1, sections 7.13 and 7.14).
use Rattle.std.specs.Prelude.{ℕ, List, ◌++◌, codes}
use Rattle.std.specs.List.{flat_map}
use Rattle.grid.specs.declared.grids.Grid.{Grid}
use Rattle.map_asks.specs.declared.asks.Layer.{Layer}
use Rattle.map_asks.specs.declared.asks.Layer.TheVariants.{All, Class}
use Rattle.map_answers.specs.Links.{collection_address, layer_name, link_text}
use Rattle.map_answers.specs.Strings.{string_text}
use Rattle.map_answers.specs.declared.answers.MediaType.TheVariants.{Json, GeoJson}
use Rattle.map_pages.specs.Extents.{extent_text}

-- where the features of a collection are
unfoldable pub items_address : List ℕ → Layer → List ℕ
items_address base layer = collection_address base layer ++ codes "/items"

-- the parts of a collection
unfoldable pub id_part : Layer → List ℕ
id_part layer = codes "{\"id\":" ++ string_text (layer_name layer)

unfoldable pub title_part : Layer → List ℕ
title_part layer = codes ",\"title\":" ++ string_text (layer_name layer)

unfoldable pub extent_part : Grid → List ℕ
extent_part grid = codes ",\"itemType\":\"feature\",\"extent\":" ++ extent_text grid

unfoldable pub crs_part : List ℕ
crs_part = codes ",\"crs\":[\"http://www.opengis.net/def/crs/OGC/1.3/CRS84\"],\"links\":["

-- what a collection is: its id and title, that it has features, their extent and coordinates
abbrev pub described_text : Grid → Layer → List ℕ
described_text grid layer = id_part layer ++ title_part layer ++ extent_part grid ++ crs_part

-- the links of a collection: to itself, and to its features
unfoldable pub self_part : List ℕ → Layer → List ℕ
self_part base layer = link_text (codes "self") Json (collection_address base layer)

unfoldable pub items_part : List ℕ → Layer → List ℕ
items_part base layer =
    codes "," ++ link_text (codes "items") GeoJson (items_address base layer)

-- a collection: what it is, where it is, where its features are
abbrev pub collection_text : List ℕ → Grid → Layer → List ℕ
collection_text base grid layer =
    described_text grid layer ++ self_part base layer ++ items_part base layer ++ codes "]}"

-- the collection of a class, which is not the first
abbrev pub following_collection : List ℕ → Grid → List ℕ → List ℕ
following_collection base grid class = codes "," ++ collection_text base grid (Class class)

-- the head of the list, and the link to itself
unfoldable pub list_part : List ℕ → List ℕ
list_part base =
    codes "{\"links\":[" ++ link_text (codes "self") Json (base ++ codes "/collections")
    ++ codes "],\"collections\":["

-- the list of collections: that of all features, and then those of classes
abbrev pub collections_text : List ℕ → Grid → List (List ℕ) → List ℕ
collections_text base grid classes =
    list_part base ++ collection_text base grid All
    ++ flat_map (following_collection base grid) classes ++ codes "]}"
