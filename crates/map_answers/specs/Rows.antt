-- The rows of a collection, and those of a page.
use Rattle.std.specs.Prelude.{ℕ, Bool, true, ◌&&◌, ◌==◌, List, [], ◌∷◌, ◌-◌, length, take, drop, filter, slice_get, nat_eq, nat_le, Option, None, Some, option_map, if◌then◌else◌}
use Rattle.std.specs.List.{prefix_len}
use Rattle.std.specs.Cmp.Lexicographic.{pointwise}
use Rattle.features.specs.declared.rows.Feature.{Feature}
use Rattle.map_asks.specs.declared.asks.Layer.{Layer}
use Rattle.map_asks.specs.declared.asks.Layer.TheVariants.{All, Class}

-- a feature belongs to a collection
abbrev pub is_in : Layer → Feature → Bool
is_in All feature = true
is_in (Class class) feature = pointwise nat_eq feature.class class

-- the rows of a collection
abbrev pub of_layer : Layer → List Feature → List Feature
of_layer layer rows = filter (is_in layer) rows

-- the row of this id, where it is of the collection
abbrev pub row_of : Layer → ℕ → List Feature → Option Feature
row_of layer id [] = None
row_of layer id (row ∷ rows) =
    if (row.id == id) && is_in layer row then Some row else row_of layer id rows

abbrev pub is_up_to : ℕ → Feature → Bool
is_up_to id row = nat_le row.id id

-- the rows from the first one on that has a greater id; all of them where no id is given
abbrev pub behind : Option ℕ → List Feature → List Feature
behind None rows = rows
behind (Some id) rows = drop (prefix_len (is_up_to id) rows) rows

-- a page: at most so many of the rows behind an id
abbrev pub page : Option ℕ → ℕ → List Feature → List Feature
page after limit rows = take limit (behind after rows)

abbrev pub last_of : List Feature → Option Feature
last_of rows = slice_get rows (length rows - 1)

-- the id of a page's last row, where more rows stand behind the page
abbrev pub next_after : Option ℕ → ℕ → List Feature → Option ℕ
next_after after limit rows =
    if nat_le (length (behind after rows)) limit then None
    else option_map (λ row. row.id) (last_of (page after limit rows))
