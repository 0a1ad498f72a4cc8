-- How a store keeps its features: each at a place, and apart from them their ids, sorted, with the
-- place of each.
use Rattle.std.specs.Prelude.{◌≡◌, ℕ, ◌+◌, ◌<◌, ◌≤◌, ◌^◌, ◌==◌, ◌&&◌, List, [], length, map, All, slice_index_or, vec_len, vec_capacity, if◌then◌else◌}
use Rattle.features.specs.declared.rows.Feature.{Feature}
use Rattle.feature_store.specs.declared.tables.Table.{Table}
use Rattle.features.specs.Rows.{IsSortedById}
use Rattle.feature_store.specs.Blocks.{ids_in, places_in}

-- what is read at a place that does not exist
abbrev pub blank : Feature
blank = record { id = 0; version = 0; office = []; class = []; shape = [] }

abbrev pub feature_at : List Feature → ℕ → Feature
feature_at features place = slice_index_or features place blank

abbrev pub ids_of : List Feature → List ℕ
ids_of rows = map (λ row. row.id) rows

-- the features at these places
abbrev pub rows_at : List ℕ → List Feature → List Feature
rows_at places features = map (feature_at features) places

-- the ids are those of the features at the places, and rise; each place exists, and there are as
-- many as features
pub record AreTied (ids places : List ℕ) (features : List Feature) : Type 0 where
  pub ids_told : ids ≡ ids_of (rows_at places features)
  pub sorted : IsSortedById (rows_at places features)
  pub in_range : All (λ place. place < length features) places
  pub one_each : length places ≡ length features
  pub numbered : length features ≤ 2 ^ 32

module _ {A : Type 0} where
  -- the features of a table, by rising id
  abbrev pub rows_of : Table A → List Feature
  rows_of table = rows_at (places_in table.entries.items) table.features.items

  abbrev pub IsSound : Table A → Type 0
  IsSound table = AreTied (ids_in table.entries.items) (places_in table.entries.items)
      table.features.items

  -- n more features fit without growth, and their places fit into 32 bits
  pub record HasRoom (n : ℕ) (table : Table A) : Type 0 where
    pub entries_room : n ≤ table.entries.room
    pub features_room : vec_len table.features + n ≤ vec_capacity table.features
    pub numbers : vec_len table.features + n ≤ 2 ^ 32

-- the places, with `to` in place of `from` for this id
pub record IsRenumbered (ids : List ℕ) (id from to : ℕ) (old new : List ℕ) : Type 0 where
  pub len : length new ≡ length old
  pub by_index : (k d : ℕ) → k < length old
      → slice_index_or new k d
      ≡ (if (slice_index_or ids k d == id) && (slice_index_or old k d == from) then to
      else slice_index_or old k d)
