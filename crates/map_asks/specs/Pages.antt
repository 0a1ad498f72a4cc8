-- The page that a path names.
use Rattle.std.specs.Prelude.{ℕ, ◌==◌, Bool, List, [], ◌∷◌, length, take, drop, codes, Option, None, Some, option_and_then, option_map, if◌then◌else◌, nat_eq}
use Rattle.std.specs.List.{list_any, starts_with}
use Rattle.std.specs.Cmp.Lexicographic.{pointwise}
use Rattle.std.specs.Str.{bytes_eq}
use Rattle.features.specs.Names.{name_of}
use Rattle.line_words.specs.Words.{number_of}
use Rattle.map_asks.specs.Cuts.{front, back}
use Rattle.map_asks.specs.declared.asks.Layer.{Layer}
use Rattle.map_asks.specs.declared.asks.Layer.TheVariants.{All, Class}
use Rattle.map_asks.specs.declared.asks.FixedPage.TheVariants.{Landing, Api, Conformance, Collections, Collection, Map}
use Rattle.map_asks.specs.declared.asks.Page.{Page}
use Rattle.map_asks.specs.declared.asks.Page.TheVariants.{Fixed, Items, Item}

abbrev pub is_one_of : List (List ℕ) → List ℕ → Bool
is_one_of classes class = list_any (λ other. pointwise nat_eq other class) classes

-- a class among those that are collections
abbrev pub layer_of_class : List (List ℕ) → Option (List ℕ) → Option Layer
layer_of_class classes None = None
layer_of_class classes (Some class) = if is_one_of classes class then Some (Class class) else None

-- the collection of this name
abbrev pub layer_named : List (List ℕ) → List ℕ → Option Layer
layer_named classes name =
    if bytes_eq name (codes "features") then Some All else layer_of_class classes (name_of name)

-- the page of a collection that the rest of a path names
abbrev pub page_of_layer : Layer → List ℕ → Option Page
page_of_layer layer rest =
    if length rest == 0 then Some (Fixed (Collection layer))
    else if bytes_eq rest (codes "/items") then Some (Items layer)
    else if starts_with nat_eq rest (codes "/items/")
    then option_map (λ id. Item layer id) (number_of (drop 7 rest)) else None

-- the page that a path names behind `/collections/`
unfoldable pub collection_page : List (List ℕ) → List ℕ → Option Page
collection_page classes text =
    option_and_then (λ layer. page_of_layer layer (back 47 text)) (layer_named classes (front 47 text))

-- the page that a path names
unfoldable pub page_of : List (List ℕ) → List ℕ → Option Page
page_of classes path =
    if bytes_eq path (codes "/") then Some (Fixed Landing)
    else if bytes_eq path (codes "/api") then Some (Fixed Api)
    else if bytes_eq path (codes "/conformance") then Some (Fixed Conformance)
    else if bytes_eq path (codes "/collections") then Some (Fixed Collections)
    else if bytes_eq path (codes "/map") then Some (Fixed Map)
    else if starts_with nat_eq path (codes "/collections/") then collection_page classes (drop 13 path)
    else None
