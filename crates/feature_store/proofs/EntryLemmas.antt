-- A table whose ids and places are those of entries, and the effect of a change of its entries.
use Rattle.std.proofs.Common.{◌≡◌, ◌≢◌, ℕ, ◌+◌, ◌-◌, ◌^◌, ◌<◌, ◌≤◌, List, [], ◌∷◌, ◌++◌, length, set, get_or, None, sym, ap, subst, ◌∙◌, arith}
use Rattle.std.specs.List.{insert, remove}
use Rattle.std.proofs.lemmas.List.{get_or-map, length-map, map-set, set-get_or}
use Rattle.arrayvec.specs.ArrayVec.{ArrayVec}
use Rattle.plane.specs.declared.point.Point.{Point}
use Rattle.feature_store.specs.declared.blocks.Entry.{Entry}
use Rattle.feature_store.specs.declared.blocks.Position.{Position}
use Rattle.features.specs.declared.rows.Feature.{Feature}
use Rattle.feature_store.specs.Places.{AreRising, IsAt}
use Rattle.feature_store.specs.Blocks.{HasPlace, IsInserted, IsPresent, IsRemoved, block_at, entries_of, entry_at, flat_index, ids_in, no_entry, places_in, with_place, without_entry}
use Rattle.features.specs.Rows.{feature_with, with_row, with_shape, without}
use Rattle.feature_store.specs.Tables.{AreTied, IsRenumbered, feature_at, rows_at}
use Rattle.feature_store.proofs.BlockLemmas.{entry_in_block, items_with_place, items_without_entry}
use Rattle.feature_store.proofs.RowLemmas.{reshaped}
use Rattle.feature_store.proofs.TableLemmas.{map-insert, map-remove, place_is, feature_is, rows_put, tied_put, rows_reshaped, tied_reshaped, rising_less, rows_without_last, tied_without_last, rows_with_moved, tied_with_moved, renumbered_at, left_at}

-- what is found at an index, from the entry there
module _ (id : ℕ) (entries : List Entry) (at : ℕ) (is : IsAt id (ids_in entries) at) where
  pub in_entries : at < length entries
  in_entries = omega (arith, is.in_range, length-map entries (λ entry. entry.id))

  place_read : (d : ℕ) → get_or (places_in entries) at d ≡ (entry_at entries at).place
  place_read d = get_or-map (λ entry. entry.place) entries at no_entry d in_entries

  pub has_place : (place : ℕ) → place ≡ (entry_at entries at).place → HasPlace id place entries
  has_place place read = record { index = at; at = is; place_is = read ∙ sym (place_read place) }

  pub is_removed : (place : ℕ) (new : List Entry) → place ≡ (entry_at entries at).place → new ≡ remove entries at → IsRemoved id place entries new
  is_removed place new read told = record { index = at; at = is; place_is = read ∙ sym (place_read place); told = told }

  module _ (from to : ℕ) (rising : AreRising (ids_in entries)) where
    same_length : length (ids_in entries) ≡ length (places_in entries)
    same_length = length-map entries (λ entry. entry.id) ∙ sym (length-map entries (λ entry. entry.place))

    abbrev other : Entry
    other = record (entry_at entries at) { place = to }

    pub ids_renumbered : ids_in (set entries at (record (entry_at entries at) { place = to })) ≡ ids_in entries
    ids_renumbered =
        map-set (λ (entry : Entry). entry.id) entries at other
        ∙ ap (λ n. set (ids_in entries) at n) (sym (get_or-map (λ entry. entry.id) entries at no_entry 0 in_entries))
        ∙ set-get_or (ids_in entries) at 0

    pub places_renumbered : (entry_at entries at).place ≡ from → IsRenumbered (ids_in entries) id from to (places_in entries) (places_in (set entries at (record (entry_at entries at) { place = to })))
    places_renumbered there =
        subst (λ places. IsRenumbered (ids_in entries) id from to (places_in entries) places) (sym (map-set (λ (entry : Entry). entry.place) entries at other))
        (renumbered_at (ids_in entries) (places_in entries) id at from to rising same_length is 0 (place_read 0 ∙ there))

    pub places_left : ((entry_at entries at).place ≡ from → ⊥) → IsRenumbered (ids_in entries) id from to (places_in entries) (places_in entries)
    places_left elsewhere = left_at (ids_in entries) (places_in entries) id at from to rising same_length is 0 (λ there. elsewhere (sym (place_read 0) ∙ there))

module _ (entries : List Entry) (features : List Feature) (tied : AreTied (ids_in entries) (places_in entries) features) where
  -- an entry is inserted, and its feature appended
  module _ (row : Feature) (entry : Entry) (new : List Entry) (same_id : entry.id ≡ row.id) (at_end : entry.place ≡ length features) (is : IsInserted entry entries new) where
    places_more : places_in new ≡ insert (places_in entries) is.index (length features)
    places_more = ap places_in is.told ∙ map-insert (λ entry. entry.place) entries is.index entry ∙ ap (insert (places_in entries) is.index) at_end

    ids_more : ids_in new ≡ insert (ids_in entries) is.index row.id
    ids_more = ap ids_in is.told ∙ map-insert (λ entry. entry.id) entries is.index entry ∙ ap (insert (ids_in entries) is.index) same_id

    pub rows_inserted : rows_at (places_in new) (features ++ row ∷ []) ≡ with_row row (rows_at (places_in entries) features)
    rows_inserted = ap (λ places. rows_at places (features ++ row ∷ [])) places_more ∙ rows_put (ids_in entries) (places_in entries) features tied row is.index (rw same_id at is.gap)

    pub tied_inserted : feature_with row.id (rows_at (places_in entries) features) ≡ None → length features + 1 ≤ 2 ^ 32 → AreTied (ids_in new) (places_in new) (features ++ row ∷ [])
    tied_inserted absent few = rw (ids_more, places_more) (tied_put (ids_in entries) (places_in entries) features tied row is.index (rw same_id at is.gap) absent few)

  -- another shape is written at the place of an id
  module _ (id version : ℕ) (shape : List Point) (place : ℕ) (has : HasPlace id place entries) (row : Feature) (got : row ≡ get_or features place row) where
    place_there : place ≡ get_or (places_in entries) has.index 0
    place_there = place_is (ids_in entries) (places_in entries) features tied id has.index place has.at has.place_is

    row_there : row ≡ feature_at features (get_or (places_in entries) has.index 0)
    row_there = feature_is (ids_in entries) (places_in entries) features tied id has.index place has.at has.place_is row got

    pub rows_rewritten : rows_at (places_in entries) (set features place (reshaped version shape row)) ≡ with_shape id version shape (rows_at (places_in entries) features)
    rows_rewritten =
        (λ i. rows_at (places_in entries) (set features (place_there i) (reshaped version shape (row_there i))))
        ∙ rows_reshaped (ids_in entries) (places_in entries) features tied id version shape has.index has.at

    pub tied_rewritten : AreTied (ids_in entries) (places_in entries) (set features place (reshaped version shape row))
    tied_rewritten =
        subst (AreTied (ids_in entries) (places_in entries)) (sym (λ i. set features (place_there i) (reshaped version shape (row_there i))))
        (tied_reshaped (ids_in entries) (places_in entries) features tied id version shape has.index has.at)

  -- an entry is removed, and the last feature moves to its place
  module _ (id place : ℕ) (new : List Entry) (is : IsRemoved id place entries new) where
    pub ids_fewer : ids_in new ≡ remove (ids_in entries) is.index
    ids_fewer = ap ids_in is.told ∙ map-remove (λ entry. entry.id) entries is.index

    pub places_fewer : places_in new ≡ remove (places_in entries) is.index
    places_fewer = ap places_in is.told ∙ map-remove (λ entry. entry.place) entries is.index

    pub rising_fewer : AreRising (ids_in new)
    rising_fewer = subst AreRising (sym ids_fewer) (rising_less (ids_in entries) (places_in entries) features tied id is.index is.at)

    module _ (swapped : List Feature) (n last : ℕ) (n_is : n ≡ length features) (last_is : last ≡ length swapped) (shorter : length swapped + 1 ≡ length features)
        (by_index : ((d : Feature) → place + 1 < n → get_or swapped place d ≡ get_or features (n - 1) d) × ((k : ℕ) (d : Feature) → k ≢ place → k + 1 < n → get_or swapped k d ≡ get_or features k d)) where
      pub rows_less_last : last ≤ place → rows_at (places_in new) swapped ≡ without id (rows_at (places_in entries) features)
      rows_less_last no_more = rw places_fewer (rows_without_last (ids_in entries) (places_in entries) features tied id is.index place is.at is.place_is swapped n last n_is last_is shorter by_index no_more)

      pub tied_less_last : last ≤ place → AreTied (ids_in new) (places_in new) swapped
      tied_less_last no_more = rw (ids_fewer, places_fewer) (tied_without_last (ids_in entries) (places_in entries) features tied id is.index place is.at is.place_is swapped n last n_is last_is shorter by_index no_more)

      module _ (more : place < last) (moved : Feature) (got : moved ≡ get_or swapped place moved) (newer : List Entry) (same_ids : ids_in newer ≡ ids_in new)
          (told : IsRenumbered (ids_in new) moved.id last place (places_in new) (places_in newer)) where
        told_fewer : IsRenumbered (remove (ids_in entries) is.index) moved.id last place (remove (places_in entries) is.index) (places_in newer)
        told_fewer = rw (ids_fewer, places_fewer) at told

        pub rows_less_moved : rows_at (places_in newer) swapped ≡ without id (rows_at (places_in entries) features)
        rows_less_moved = rows_with_moved (ids_in entries) (places_in entries) features tied id is.index place is.at is.place_is swapped n last n_is last_is shorter by_index more moved got (places_in newer) told_fewer

        pub tied_less_moved : AreTied (ids_in newer) (places_in newer) swapped
        tied_less_moved = rw (same_ids, ids_fewer) (tied_with_moved (ids_in entries) (places_in entries) features tied id is.index place is.at is.place_is swapped n last n_is last_is shorter by_index more moved got (places_in newer) told_fewer)

-- the same at a position in blocks
module _ (id : ℕ) (blocks : List (ArrayVec Entry)) (position : Position) (present : IsPresent position blocks) (is : IsAt id (ids_in (entries_of blocks)) (flat_index blocks position)) where
  entry_there : entry_at (entries_of blocks) (flat_index blocks position) ≡ entry_at (block_at blocks position.block) position.index
  entry_there = entry_in_block blocks position.block present.block_in position.index present.index_in

  place_there_is : (entry_at (block_at blocks position.block) position.index).place ≡ (entry_at (entries_of blocks) (flat_index blocks position)).place
  place_there_is = ap (λ (entry : Entry). entry.place) (sym entry_there)

  pub place_at_position : (place : ℕ) → place ≡ (entry_at (block_at blocks position.block) position.index).place → HasPlace id place (entries_of blocks)
  place_at_position place read = has_place id (entries_of blocks) (flat_index blocks position) is place (read ∙ place_there_is)

  pub removed_at_position : (place : ℕ) (new : List Entry) → place ≡ (entry_at (block_at blocks position.block) position.index).place → new ≡ entries_of (without_entry blocks position) → IsRemoved id place (entries_of blocks) new
  removed_at_position place new read told =
      is_removed id (entries_of blocks) (flat_index blocks position) is place new (read ∙ place_there_is) (told ∙ items_without_entry blocks position present.block_in present.index_in)

  module _ (from to : ℕ) (rising : AreRising (ids_in (entries_of blocks))) where
    entries_changed : entries_of (with_place blocks position to) ≡ set (entries_of blocks) (flat_index blocks position) (record (entry_at (entries_of blocks) (flat_index blocks position)) { place = to })
    entries_changed =
        items_with_place blocks position present.block_in to present.index_in
        ∙ ap (λ (entry : Entry). set (entries_of blocks) (flat_index blocks position) (record entry { place = to })) (sym entry_there)

    pub ids_kept : ids_in (entries_of (with_place blocks position to)) ≡ ids_in (entries_of blocks)
    ids_kept = ap ids_in entries_changed ∙ ids_renumbered id (entries_of blocks) (flat_index blocks position) is from to rising

    pub places_changed : (entry_at (block_at blocks position.block) position.index).place ≡ from
        → IsRenumbered (ids_in (entries_of blocks)) id from to (places_in (entries_of blocks)) (places_in (entries_of (with_place blocks position to)))
    places_changed there =
        subst (λ entries. IsRenumbered (ids_in (entries_of blocks)) id from to (places_in (entries_of blocks)) (places_in entries)) (sym entries_changed)
        (places_renumbered id (entries_of blocks) (flat_index blocks position) is from to rising (sym place_there_is ∙ there))

    pub places_kept : ((entry_at (block_at blocks position.block) position.index).place ≡ from → ⊥) → IsRenumbered (ids_in (entries_of blocks)) id from to (places_in (entries_of blocks)) (places_in (entries_of blocks))
    places_kept elsewhere = places_left id (entries_of blocks) (flat_index blocks position) is from to rising (λ there. elsewhere (place_there_is ∙ there))
