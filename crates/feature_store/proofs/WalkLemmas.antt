-- A walk over blocks, one at a time.
use Rattle.std.proofs.Common.{◌≡◌, ℕ, zero, suc, ◌+◌, ◌-◌, ◌<◌, ◌≤◌, List, [], ◌∷◌, ◌++◌, length, map, drop, get_or, Some, refl, sym, ap, ◌∙◌, arith}
use Rattle.std.specs.Prelude.{slice_get}
use Rattle.std.specs.List.{All}
use Rattle.std.proofs.lemmas.List.{drop_more, length-append, length-map, map-append, get_or-append-add, get_or-map, get_or_append_left, get_or_default}
use Rattle.arrayvec.specs.ArrayVec.{ArrayVec}
use Rattle.feature_store.specs.declared.blocks.Entry.{Entry}
use Rattle.features.specs.declared.rows.Feature.{Feature}
use Rattle.feature_store.specs.Blocks.{entries_of, entry_at, no_entry, places_in}
use Rattle.feature_store.specs.Tables.{blank, feature_at, rows_at}

pub slice_get_map : {X Y : Type 0} (f : X → Y) (xs : List X) (i : ℕ) (d : X) → i < length xs → slice_get (map f xs) i ≡ Some (f (get_or xs i d))
slice_get_map f [] i d lt = absurd (omega (arith, lt))
slice_get_map f (x ∷ xs) zero d lt = refl
slice_get_map f (x ∷ xs) (suc i) d lt = slice_get_map f xs i d (omega (arith, lt))

get_left : {X : Type 0} (xs ys : List X) (i : ℕ) → i < length xs → slice_get (xs ++ ys) i ≡ slice_get xs i
get_left [] ys i lt = absurd (omega (arith, lt))
get_left (x ∷ xs) ys zero lt = refl
get_left (x ∷ xs) ys (suc i) lt = get_left xs ys i (omega (arith, lt))

get_right : {X : Type 0} (xs ys : List X) (i : ℕ) → length xs ≤ i → slice_get (xs ++ ys) i ≡ slice_get ys (i - length xs)
get_right [] ys i le = ap (slice_get ys) (let e : i ≡ i - 0 = omega arith in e)
get_right (x ∷ xs) ys zero le = absurd (omega (arith, le))
get_right (x ∷ xs) ys (suc i) le = get_right xs ys i (omega (arith, le)) ∙ ap (slice_get ys) (let e : i - length xs ≡ suc i - suc (length xs) = omega arith in e)

module _ (blocks : List (ArrayVec Entry)) (i : ℕ) (block : ArrayVec Entry) (within : i < length blocks) (is : block ≡ get_or blocks i block) where
  pub entries_next : entries_of (drop i blocks) ≡ block.items ++ entries_of (drop (i + 1) blocks)
  entries_next = ap entries_of (drop_more blocks i block within) ∙ ap (λ (first : ArrayVec Entry). first.items ++ entries_of (drop (i + 1) blocks)) (let e : get_or blocks i block ≡ block = sym is in e)

  pub places_next : places_in (entries_of (drop i blocks)) ≡ places_in block.items ++ places_in (entries_of (drop (i + 1) blocks))
  places_next = ap places_in entries_next ∙ map-append (λ (entry : Entry). entry.place) block.items (entries_of (drop (i + 1) blocks))

  length_places : length (places_in block.items) ≡ length block.items
  length_places = length-map block.items (λ (entry : Entry). entry.place)

  -- an index is in this block, or as far into the rest
  pub place_here : (left : ℕ) (d : Entry) → left < length block.items → slice_get (places_in (entries_of (drop i blocks))) left ≡ Some (get_or block.items left d).place
  place_here left d lt =
      ap (λ places. slice_get places left) places_next
      ∙ get_left (places_in block.items) (places_in (entries_of (drop (i + 1) blocks))) left (omega (arith, lt, length_places))
      ∙ slice_get_map (λ (entry : Entry). entry.place) block.items left d lt

  pub place_later : (left : ℕ) → length block.items ≤ left → slice_get (places_in (entries_of (drop i blocks))) left ≡ slice_get (places_in (entries_of (drop (i + 1) blocks))) (left - length block.items)
  place_later left le =
      ap (λ places. slice_get places left) places_next
      ∙ get_right (places_in block.items) (places_in (entries_of (drop (i + 1) blocks))) left (omega (arith, le, length_places))
      ∙ ap (λ n. slice_get (places_in (entries_of (drop (i + 1) blocks))) (left - n)) length_places

  pub rows_next : (features : List Feature) → rows_at (places_in (entries_of (drop i blocks))) features ≡ rows_at (places_in block.items) features ++ rows_at (places_in (entries_of (drop (i + 1) blocks))) features
  rows_next features = ap (λ places. rows_at places features) places_next ∙ map-append (feature_at features) (places_in block.items) (places_in (entries_of (drop (i + 1) blocks)))

  module _ (limit : ℕ) (all : All (λ place. place < limit) (places_in (entries_of (drop i blocks)))) where
    pub all_here : All (λ place. place < limit) (places_in block.items)
    all_here k d lt =
        let e = ap (λ places. get_or places k d) places_next ∙ get_or_append_left (places_in block.items) (places_in (entries_of (drop (i + 1) blocks))) d k lt in
        omega (arith, e, all k d (omega (arith, lt, ap length places_next, length-append (places_in block.items) (places_in (entries_of (drop (i + 1) blocks))))))

    pub all_later : All (λ place. place < limit) (places_in (entries_of (drop (i + 1) blocks)))
    all_later k d lt =
        let e = ap (λ places. get_or places (length (places_in block.items) + k) d) places_next ∙ get_or-append-add (places_in block.items) (places_in (entries_of (drop (i + 1) blocks))) k d in
        omega (arith, e, all (length (places_in block.items) + k) d (omega (arith, lt, ap length places_next, length-append (places_in block.items) (places_in (entries_of (drop (i + 1) blocks))))))

pub row_next : (entries : List Entry) (features : List Feature) (i : ℕ) (row : Feature) → i < length entries → (entry_at entries i).place < length features → row ≡ get_or features (entry_at entries i).place row
    → rows_at (places_in (drop i entries)) features ≡ row ∷ rows_at (places_in (drop (i + 1) entries)) features
row_next entries features i row within there is =
    ap (λ rest. rows_at (places_in rest) features) (drop_more entries i no_entry within)
    ∙ ap (λ (first : Feature). first ∷ rows_at (places_in (drop (i + 1) entries)) features) (sym (is ∙ get_or_default features (entry_at entries i).place row blank there))

pub place_below : (entries : List Entry) (limit i : ℕ) → All (λ place. place < limit) (places_in entries) → i < length entries → (entry_at entries i).place < limit
place_below entries limit i all within =
    omega (arith, all i 0 (omega (arith, within, length-map entries (λ (entry : Entry). entry.place))), get_or-map (λ (entry : Entry). entry.place) entries i no_entry 0 within)
