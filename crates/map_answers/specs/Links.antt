-- Links, and the addresses that they lead to.
use Rattle.std.specs.Prelude.{ℕ, List, ◌++◌, codes, decimal}
use Rattle.map_asks.specs.declared.asks.Layer.{Layer}
use Rattle.map_asks.specs.declared.asks.Layer.TheVariants.{All, Class}
use Rattle.map_answers.specs.Answers.{media_text}
use Rattle.map_answers.specs.Strings.{string_text}
use Rattle.map_answers.specs.declared.answers.MediaType.{MediaType}

-- the name of a collection
abbrev pub layer_name : Layer → List ℕ
layer_name All = codes "features"
layer_name (Class class) = class

-- the parts of a link: its relation, the type of what is there, and its address
unfoldable pub relation_part : List ℕ → List ℕ
relation_part relation = codes "{\"rel\":" ++ string_text relation

unfoldable pub type_part : MediaType → List ℕ
type_part media = codes ",\"type\":" ++ string_text (media_text media)

unfoldable pub href_part : List ℕ → List ℕ
href_part address = codes ",\"href\":" ++ string_text address

-- a link
unfoldable pub link_text : List ℕ → MediaType → List ℕ → List ℕ
link_text relation media address =
    relation_part relation ++ type_part media ++ href_part address ++ codes "}"

-- the parts of an address
unfoldable pub collections_path : List ℕ
collections_path = codes "/collections/"

unfoldable pub kept_part : ℕ → List ℕ
kept_part kept = codes "/items?kept=" ++ decimal kept

unfoldable pub after_part : ℕ → List ℕ
after_part after = codes "&after=" ++ decimal after

unfoldable pub limit_part : ℕ → List ℕ
limit_part limit = codes "&limit=" ++ decimal limit

-- where a collection is
abbrev pub collection_address : List ℕ → Layer → List ℕ
collection_address base layer = base ++ collections_path ++ layer_name layer

unfoldable pub item_part : ℕ → List ℕ
item_part id = codes "/items/" ++ decimal id

-- where a feature of a collection is
abbrev pub item_address : List ℕ → Layer → ℕ → List ℕ
item_address base layer id = collection_address base layer ++ item_part id

-- where a further page is: what is behind an id, of a kept answer
abbrev pub next_address : List ℕ → Layer → ℕ → ℕ → ℕ → List ℕ
next_address base layer kept after limit =
    collection_address base layer ++ kept_part kept ++ after_part after ++ limit_part limit
