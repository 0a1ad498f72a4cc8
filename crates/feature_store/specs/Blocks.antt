-- How a store keeps the entries of its features: by rising id, in blocks.
use Rattle.std.specs.Prelude.{◌≡◌, ◌≢◌, ℕ, ◌+◌, ◌-◌, ◌*◌, ◌<◌, ◌≤◌, max, List, [], ◌++◌, length, map, take, drop, flat_map, insert, remove, slice_index_or, slice_set}
use Rattle.arrayvec.specs.ArrayVec.{ArrayVec}
use Rattle.feature_store.specs.declared.blocks.Entry.{Entry}
use Rattle.feature_store.specs.declared.blocks.Position.{Position}
use Rattle.feature_store.specs.declared.blocks.TheConstants.{HALF}
use Rattle.feature_store.specs.Places.{IsAt, IsGapFor}

abbrev pub ids_in : List Entry → List ℕ
ids_in entries = map (λ entry. entry.id) entries

abbrev pub places_in : List Entry → List ℕ
places_in entries = map (λ entry. entry.place) entries

-- what is read at an index that does not exist
abbrev pub no_entry : Entry
no_entry = record { id = 0; place = 0 }

abbrev pub entry_at : List Entry → ℕ → Entry
entry_at entries index = slice_index_or entries index no_entry

abbrev pub last_of : List Entry → Entry
last_of entries = entry_at entries (length entries - 1)

abbrev pub block_at : List (ArrayVec Entry) → ℕ → List Entry
block_at blocks index = (slice_index_or blocks index (record { items = [] })).items

-- the entries of all blocks
abbrev pub entries_of : List (ArrayVec Entry) → List Entry
entries_of blocks = flat_map (λ block. block.items) blocks

-- each block but the last has an entry
abbrev pub AreFilled : List (ArrayVec Entry) → Type 0
AreFilled blocks = (k : ℕ) → k + 1 < length blocks → 0 < length (block_at blocks k)

-- the same, but for one block
abbrev pub AreFilledBut : ℕ → List (ArrayVec Entry) → Type 0
AreFilledBut at blocks = (k : ℕ) → k + 1 < length blocks → k ≢ at → 0 < length (block_at blocks k)

-- the index in the list of all entries
abbrev pub flat_index : List (ArrayVec Entry) → Position → ℕ
flat_index blocks position = length (entries_of (take position.block blocks)) + position.index

-- an entry is at this position
pub record IsPresent (position : Position) (blocks : List (ArrayVec Entry)) : Type 0 where
  pub block_in : position.block < length blocks
  pub index_in : position.index < length (block_at blocks position.block)

-- an entry could be inserted at this position
pub record IsWithin (position : Position) (blocks : List (ArrayVec Entry)) : Type 0 where
  pub block_in : position.block < length blocks
  pub index_in : position.index ≤ length (block_at blocks position.block)

-- the entries of a block above its half
abbrev pub above_half : ArrayVec Entry → List Entry
above_half block = drop HALF block.items

-- how many entries are above the half of their block
abbrev pub excess_in : List (ArrayVec Entry) → ℕ
excess_in blocks = length (flat_map above_half blocks)

-- how many more blocks fit into room for `capacity` of them, beside a first one
abbrev pub spare_in : List (ArrayVec Entry) → ℕ → ℕ
spare_in blocks capacity = capacity - max 1 (length blocks)

-- how many entries come at least before these blocks would need more room than that: a block is
-- split only when all of its upper half has come
abbrev pub fill_in : List (ArrayVec Entry) → ℕ → ℕ
fill_in blocks capacity = HALF * capacity - (excess_in blocks + HALF * max 1 (length blocks))

-- how many more entries certainly fit without growth
abbrev pub room_in : List (ArrayVec Entry) → ℕ → ℕ
room_in blocks capacity = max (spare_in blocks capacity) (fill_in blocks capacity)

-- the blocks with one more entry
abbrev pub with_entry : List (ArrayVec Entry) → Position → Entry → List (ArrayVec Entry)
with_entry blocks position entry =
    slice_set blocks position.block
    (record { items = insert (block_at blocks position.block) position.index entry })

-- the blocks with an entry less
abbrev pub without_entry : List (ArrayVec Entry) → Position → List (ArrayVec Entry)
without_entry blocks position =
    slice_set blocks position.block
    (record { items = remove (block_at blocks position.block) position.index })

-- the blocks with another place at this position
abbrev pub with_place : List (ArrayVec Entry) → Position → ℕ → List (ArrayVec Entry)
with_place blocks position place =
    slice_set blocks position.block
    (record {
      items = slice_set (block_at blocks position.block) position.index
          (record (entry_at (block_at blocks position.block) position.index) { place = place });
    })

-- the blocks with two in place of one: its lower half and the rest
abbrev pub halved : List (ArrayVec Entry) → ℕ → List (ArrayVec Entry)
halved blocks at = insert (slice_set blocks at (record { items = take HALF (block_at blocks at) }))
    (at + 1) (record { items = drop HALF (block_at blocks at) })

-- the blocks with one in place of two neighbours
abbrev pub joined : List (ArrayVec Entry) → ℕ → List (ArrayVec Entry)
joined blocks at = slice_set (remove blocks (at + 1)) at
    (record { items = block_at blocks at ++ block_at blocks (at + 1) })

-- what a contract sees of `Entries`: the entries by rising id, and how many more certainly fit
-- without growth
pub record Listing : Type 0 where
  pub items : List Entry
  pub room : ℕ

-- the id has this place
pub record HasPlace (id place : ℕ) (entries : List Entry) : Type 0 where
  pub index : ℕ
  pub at : IsAt id (ids_in entries) index
  pub place_is : place ≡ slice_index_or (places_in entries) index place

-- the id has no entry
pub record HasGap (id : ℕ) (entries : List Entry) : Type 0 where
  pub index : ℕ
  pub gap : IsGapFor id (ids_in entries) index

-- the entry was inserted where its id belongs
pub record IsInserted (entry : Entry) (old new : List Entry) : Type 0 where
  pub index : ℕ
  pub gap : IsGapFor entry.id (ids_in old) index
  pub told : new ≡ insert old index entry

-- the entry of this id and place was removed
pub record IsRemoved (id place : ℕ) (old new : List Entry) : Type 0 where
  pub index : ℕ
  pub at : IsAt id (ids_in old) index
  pub place_is : place ≡ slice_index_or (places_in old) index place
  pub told : new ≡ remove old index
