-- Features at their places, and the effect of changes to a table.
use Rattle.std.proofs.Common.{◌≡◌, ◌≢◌, ℕ, zero, suc, ◌+◌, ◌-◌, ◌^◌, ◌<◌, ◌≤◌, eqb, ◌&&◌, List, [], ◌∷◌, ◌++◌, length, map, set, take, drop, get_or, None, Bool, true, false, refl, inl, inr, sym, ap, subst, ◌∙◌, arith, length-append, Some}
use Rattle.std.specs.List.{All, insert, remove}
use Rattle.std.proofs.lemmas.List.{get_or-map, get_or-set_same, get_or-set_other, length-set, length-map, ext_get_or}
use Rattle.std.proofs.lemmas.List.Edits.{length-insert, length-remove, get_or-remove_below, get_or-remove_above}
use Rattle.std.proofs.lemmas.List.Elements.{All-append, All-take, All-drop}
use Rattle.std.proofs.Math.ListN.{get_or-append}
use Rattle.std.proofs.Math.Seq.{get_or-append_seam}
use Rattle.std.proofs.lemmas.Bool.{cases_eq, cases_lt, eq-eqb, ne_eqb}
use Rattle.plane.specs.declared.point.Point.{Point}
use Rattle.features.specs.declared.rows.Feature.{Feature}
use Rattle.feature_store.specs.Places.{AreRising, IsAt, IsGapFor}
use Rattle.features.specs.Rows.{feature_with, with_row, with_shape, without, IsSortedById}
use Rattle.feature_store.specs.Tables.{blank, feature_at, ids_of, rows_at, AreTied, IsRenumbered}
use Rattle.feature_store.proofs.PlaceLemmas.{differ_at}
use Rattle.feature_store.proofs.RowLemmas.{ids_rising, found_at, insert_at_gap, remove_at, set_at, reshaped, sorted_with_row, sorted_with_shape, sorted_without, ids-with_shape}

pub map-insert : {X Y : Type 0} (f : X → Y) (xs : List X) (i : ℕ) (x : X) → map f (insert xs i x) ≡ insert (map f xs) i (f x)
map-insert f [] zero x = refl
map-insert f [] (suc i) x = refl
map-insert f (y ∷ xs) zero x = refl
map-insert f (y ∷ xs) (suc i) x = ap (λ ys. f y ∷ ys) (map-insert f xs i x)

pub map-remove : {X Y : Type 0} (f : X → Y) (xs : List X) (i : ℕ) → map f (remove xs i) ≡ remove (map f xs) i
map-remove f [] zero = refl
map-remove f [] (suc i) = refl
map-remove f (y ∷ xs) zero = refl
map-remove f (y ∷ xs) (suc i) = ap (λ ys. f y ∷ ys) (map-remove f xs i)

and_false : (b : Bool) → (b && false) ≡ false
and_false true = refl
and_false false = refl

-- functions that agree on a list map it alike
map_alike : {X Y : Type 0} (f g : X → Y) (xs : List X) → All (λ x. f x ≡ g x) xs → map f xs ≡ map g xs
map_alike f g [] same = refl
map_alike f g (x ∷ xs) same = λ i. same zero x (omega arith) i ∷ map_alike f g xs (λ k d lt. same (suc k) d (omega (arith, lt))) i

-- within a list the default does not matter
pub get_or_default : {X : Type 0} (xs : List X) (i : ℕ) (d e : X) → i < length xs → get_or xs i d ≡ get_or xs i e
get_or_default [] i d e lt = absurd (omega (arith, lt))
get_or_default (x ∷ xs) zero d e lt = refl
get_or_default (x ∷ xs) (suc i) d e lt = get_or_default xs i d e (omega (arith, lt))

pub row_is : (places : List ℕ) (features : List Feature) (i : ℕ) → i < length places → get_or (rows_at places features) i blank ≡ feature_at features (get_or places i 0)
row_is places features i lt = get_or-map (feature_at features) places i 0 blank lt

-- what a table's lists say of each place
module _ (ids places : List ℕ) (features : List Feature) (tied : AreTied ids places features) where
  abbrev rows : List Feature
  rows = rows_at places features

  pub rising : AreRising ids
  rising = subst AreRising (sym tied.ids_told) (ids_rising rows tied.sorted)

  length_rows : length rows ≡ length places
  length_rows = length-map places (feature_at features)

  pub length_ids : length ids ≡ length places
  length_ids = ap length tied.ids_told ∙ length-map rows (λ row. row.id) ∙ length_rows

  pub id_is : (i : ℕ) → i < length places → get_or ids i 0 ≡ (feature_at features (get_or places i 0)).id
  id_is i lt =
      ap (λ xs. get_or xs i 0) tied.ids_told
      ∙ get_or-map (λ row. row.id) rows i blank 0 (omega (arith, lt, length_rows))
      ∙ ap (λ row. row.id) (row_is places features i lt)

  -- no two entries have the same place
  pub places_differ : (i j : ℕ) → i < length places → j < length places → i ≢ j → get_or places i 0 ≢ get_or places j 0
  places_differ i j i_in j_in apart same =
      differ_at ids i j 0 rising (omega (arith, i_in, length_ids)) (omega (arith, j_in, length_ids)) apart
      (id_is i i_in ∙ ap (λ place. (feature_at features place).id) same ∙ sym (id_is j j_in))

  -- the index of an id among the rows
  pub at_row : (id at : ℕ) → IsAt id ids at → IsAt id (ids_of rows) at
  at_row id at is = subst (λ xs. IsAt id xs at) tied.ids_told is

  pub gap_row : (id at : ℕ) → IsGapFor id ids at → IsGapFor id (ids_of rows) at
  gap_row id at is = subst (λ xs. IsGapFor id xs at) tied.ids_told is

  -- a feature is appended, and an entry with its place inserted
  module _ (row : Feature) (at : ℕ) (gap : IsGapFor row.id ids at) where
    abbrev pushed : List Feature
    pushed = features ++ row ∷ []

    abbrev more_places : List ℕ
    more_places = insert places at (length features)

    inserted : rows_at more_places pushed ≡ insert rows at row
    inserted =
        map-insert (feature_at pushed) places at (length features)
        ∙ ap (λ xs. insert xs at (feature_at pushed (length features))) (map_alike (feature_at pushed) (feature_at features) places (λ k d lt. get_or-append features (row ∷ []) blank _ (tied.in_range k d lt)))
        ∙ ap (λ new. insert rows at new) (get_or-append_seam features row [] blank)

    pub rows_put : rows_at more_places pushed ≡ with_row row rows
    rows_put = inserted ∙ insert_at_gap row rows at (gap_row row.id at gap)

    length_pushed : length pushed ≡ length features + 1
    length_pushed = length-append features (row ∷ [])

    at_in : at ≤ length places
    at_in = omega (arith, gap.in_range, length_ids)

    more_in_range : All (λ place. place < length pushed) more_places
    more_in_range = All-append (λ place. place < length pushed) (take at places) (length features ∷ drop at places)
        (All-take (λ place. place < length pushed) at places here)
        (All-append (λ place. place < length pushed) (length features ∷ []) (drop at places) one (All-drop (λ place. place < length pushed) at places here))
      where
        here : All (λ place. place < length pushed) places
        here k d lt = omega (arith, tied.in_range k d lt, length_pushed)

        one : All (λ place. place < length pushed) (length features ∷ [])
        one zero d lt = omega (arith, length_pushed)
        one (suc k) d lt = absurd (omega (arith, lt))

    pub tied_put : feature_with row.id rows ≡ None → length features + 1 ≤ 2 ^ 32 → AreTied (insert ids at row.id) more_places pushed
    tied_put absent few = record {
      ids_told = ap (λ xs. insert xs at row.id) tied.ids_told ∙ sym (map-insert (λ row. row.id) rows at row) ∙ ap ids_of (sym inserted);
      sorted = subst IsSortedById (sym rows_put) (sorted_with_row row rows tied.sorted absent);
      in_range = more_in_range;
      one_each = omega (arith, length_pushed, tied.one_each, length-insert places at (length features) at_in);
      numbered = omega (arith, length_pushed, few);
    }

  -- another shape is written at the place of an entry
  module _ (id version : ℕ) (shape : List Point) (at : ℕ) (is : IsAt id ids at) where
    abbrev place : ℕ
    place = get_or places at 0

    abbrev written : List Feature
    written = set features place (reshaped version shape (feature_at features place))

    at_place : at < length places
    at_place = omega (arith, is.in_range, length_ids)

    written_at : (k : ℕ) → k < length places → get_or (rows_at places written) k blank ≡ get_or (set rows at (reshaped version shape (feature_at features place))) k blank
    written_at k lt = elim (cases_eq k at) [
      | inl same ↦ row_is places written k lt ∙ rw same (get_or-set_same features place (reshaped version shape (feature_at features place)) blank (tied.in_range at 0 at_place)
          ∙ sym (get_or-set_same rows at (reshaped version shape (feature_at features place)) blank (omega (arith, at_place, length_rows))))
      | inr apart ↦ row_is places written k lt ∙ get_or-set_other features place (get_or places k 0) (reshaped version shape (feature_at features place)) blank (places_differ k at lt at_place apart)
          ∙ sym (row_is places features k lt) ∙ sym (get_or-set_other rows at k (reshaped version shape (feature_at features place)) blank apart)
    ]

    pub rows_reshaped : rows_at places written ≡ with_shape id version shape rows
    rows_reshaped =
        ext_get_or blank (rows_at places written) (set rows at (reshaped version shape (feature_at features place)))
        (omega (arith, length-map places (feature_at written), length_rows, length-set rows at (reshaped version shape (feature_at features place))))
        (λ k lt. written_at k (omega (arith, lt, length-map places (feature_at written))))
        ∙ ap (λ row. set rows at (reshaped version shape row)) (sym (row_is places features at at_place))
        ∙ set_at id version shape rows at blank tied.sorted (at_row id at is)

    length_written : length written ≡ length features
    length_written = length-set features place (reshaped version shape (feature_at features place))

    pub tied_reshaped : AreTied ids places written
    tied_reshaped = record {
      ids_told = tied.ids_told ∙ sym (ids-with_shape id version shape rows) ∙ ap ids_of (sym rows_reshaped);
      sorted = subst IsSortedById (sym rows_reshaped) (sorted_with_shape id version shape rows tied.sorted);
      in_range = λ k d lt. omega (arith, tied.in_range k d lt, length_written);
      one_each = omega (arith, tied.one_each, length_written);
      numbered = omega (arith, tied.numbered, length_written);
    }

  -- the last feature moves to the place of a removed entry, and its own entry is renumbered
  module _ (id at : ℕ) (is : IsAt id ids at) (less_features : List Feature) (less_places : List ℕ)
      (last : ℕ) (last_is : last + 1 ≡ length features) (less_is : length less_features ≡ last)
      (moves : get_or places at 0 < last → feature_at less_features (get_or places at 0) ≡ feature_at features last)
      (stays : (k : ℕ) → k ≢ get_or places at 0 → k < last → feature_at less_features k ≡ feature_at features k)
      (same_length : length less_places ≡ length (remove places at))
      (renumbered : (k : ℕ) → k < length less_places
      → (get_or (remove places at) k 0 ≡ last → get_or less_places k 0 ≡ get_or places at 0) × (get_or (remove places at) k 0 ≢ last → get_or less_places k 0 ≡ get_or (remove places at) k 0)) where
    at_in_places : at < length places
    at_in_places = omega (arith, is.in_range, length_ids)

    removed_rows : rows_at (remove places at) features ≡ remove rows at
    removed_rows = map-remove (feature_at features) places at

    length_removed : length (remove places at) + 1 ≡ length places
    length_removed = length-remove places at at_in_places

    -- an entry that stays has another place, one that exists
    other_place : (k : ℕ) → k < length less_places → (get_or (remove places at) k 0 ≢ get_or places at 0) × (get_or (remove places at) k 0 < length features)
    other_place k lt = elim (cases_lt k at) [
      | inl below ↦ rw (get_or-remove_below places at 0 k below at_in_places)
          (places_differ k at (omega (arith, below, at_in_places)) at_in_places (λ same. (let e : k ≡ at = same in omega (arith, e, below))), tied.in_range k 0 (omega (arith, below, at_in_places)))
      | inr above ↦ rw (get_or-remove_above places at 0 k above at_in_places)
          (places_differ (k + 1) at (omega (arith, lt, same_length, length_removed)) at_in_places (λ same. (let e : k + 1 ≡ at = same in omega (arith, e, above))), tied.in_range (k + 1) 0 (omega (arith, lt, same_length, length_removed)))
    ]

    place_stays : (k : ℕ) → k < length less_places → (get_or less_places k 0 < length less_features) × (feature_at less_features (get_or less_places k 0) ≡ feature_at features (get_or (remove places at) k 0))
    place_stays k lt = elim (cases_eq (get_or (remove places at) k 0) last) [
      | inl is_last ↦ (let apart : get_or (remove places at) k 0 ≡ get_or places at 0 → ⊥ = (other_place k lt).0 in
          let freed : get_or places at 0 < last = omega (arith, apart, is_last, last_is, tied.in_range at 0 at_in_places) in
          rw ((renumbered k lt).0 is_last, is_last) (omega (arith, freed, less_is), moves freed))
      | inr other ↦ (let below : get_or (remove places at) k 0 < last = (let ne : get_or (remove places at) k 0 ≡ last → ⊥ = other in omega (arith, ne, last_is, (other_place k lt).1)) in
          rw ((renumbered k lt).1 other) (omega (arith, below, less_is), stays (get_or (remove places at) k 0) (other_place k lt).0 below))
    ]

    pub rows_out : rows_at less_places less_features ≡ without id rows
    rows_out =
        ext_get_or blank (rows_at less_places less_features) (rows_at (remove places at) features)
        (omega (arith, length-map less_places (feature_at less_features), length-map (remove places at) (feature_at features), same_length))
        (λ k lt. (let within : k < length less_places = omega (arith, lt, length-map less_places (feature_at less_features)) in
        row_is less_places less_features k within ∙ (place_stays k within).1 ∙ sym (row_is (remove places at) features k (omega (arith, within, same_length)))))
        ∙ removed_rows ∙ remove_at id rows at tied.sorted (at_row id at is)

    pub ids_out : remove ids at ≡ ids_of (without id rows)
    ids_out = ap (λ xs. remove xs at) tied.ids_told ∙ sym (map-remove (λ row. row.id) rows at) ∙ ap ids_of (remove_at id rows at tied.sorted (at_row id at is))

    pub tied_out : AreTied (remove ids at) less_places less_features
    tied_out = record {
      ids_told = ids_out ∙ ap ids_of (sym rows_out);
      sorted = subst IsSortedById (sym rows_out) (sorted_without id rows tied.sorted);
      in_range = λ k d lt. (let here = (place_stays k lt).0 in rw (get_or_default less_places k d 0 lt) here);
      one_each = omega (arith, same_length, length_removed, tied.one_each, less_is, last_is);
      numbered = omega (arith, tied.numbered, less_is, last_is);
    }

  -- what is read through an entry
  module _ (id at place : ℕ) (is : IsAt id ids at) (read : place ≡ get_or places at place) where
    within_places : at < length places
    within_places = omega (arith, is.in_range, length_ids)

    pub place_is : place ≡ get_or places at 0
    place_is = read ∙ get_or_default places at place 0 within_places

    pub place_in : place < length features
    place_in = rw place_is (tied.in_range at 0 within_places)

    pub feature_is : (row : Feature) → row ≡ get_or features place row → row ≡ feature_at features (get_or places at 0)
    feature_is row got = got ∙ get_or_default features place row blank place_in ∙ ap (feature_at features) place_is

    pub row_found : (row : Feature) → row ≡ get_or features place row → Some row ≡ feature_with id rows
    row_found row got =
        ap Some (feature_is row got ∙ sym (row_is places features at within_places)) ∙ sym (found_at id rows at blank tied.sorted (at_row id at is))

  -- the same in the terms of the code: the feature at `at` is removed, and the last feature moves
  -- to its place
  module _ (id at place : ℕ) (is : IsAt id ids at) (read : place ≡ get_or places at place) (swapped : List Feature) (n last : ℕ) (n_is : n ≡ length features)
      (last_is : last ≡ length swapped) (shorter : length swapped + 1 ≡ length features)
      (by_index : ((d : Feature) → place + 1 < n → get_or swapped place d ≡ get_or features (n - 1) d) × ((k : ℕ) (d : Feature) → k ≢ place → k + 1 < n → get_or swapped k d ≡ get_or features k d)) where
    place_same : place ≡ get_or places at 0
    place_same = place_is id at place is read

    at_there : at < length places
    at_there = omega (arith, is.in_range, length_ids)

    length_less : length (remove places at) + 1 ≡ length places
    length_less = length-remove places at at_there

    end_is : n - 1 ≡ last
    end_is = omega (arith, n_is, last_is, shorter)

    moves_there : get_or places at 0 < last → feature_at swapped (get_or places at 0) ≡ feature_at features last
    moves_there below = rw (← place_same, ← end_is) (by_index.0 blank (omega (arith, below, place_same, n_is, last_is, shorter)))

    stay_there : (k : ℕ) → k ≢ get_or places at 0 → k < last → feature_at swapped k ≡ feature_at features k
    stay_there k apart below = by_index.1 k blank (λ same. apart (same ∙ place_same)) (omega (arith, below, n_is, last_is, shorter))

    ids_less : (k : ℕ) → k < length (remove places at) → get_or (remove ids at) k 0 ≡ (feature_at features (get_or (remove places at) k 0)).id
    ids_less k lt = elim (cases_lt k at) [
      | inl below ↦ rw (get_or-remove_below places at 0 k below at_there, get_or-remove_below ids at 0 k below is.in_range) (id_is k (omega (arith, below, at_there)))
      | inr above ↦ rw (get_or-remove_above places at 0 k above at_there, get_or-remove_above ids at 0 k above is.in_range) (id_is (k + 1) (omega (arith, lt, length_less)))
    ]

    apart_from : (k : ℕ) → k < length (remove places at) → get_or (remove places at) k 0 ≢ get_or places at 0
    apart_from k lt = elim (cases_lt k at) [
      | inl below ↦ rw (get_or-remove_below places at 0 k below at_there) (places_differ k at (omega (arith, below, at_there)) at_there (λ same. (let e : k ≡ at = same in omega (arith, e, below))))
      | inr above ↦ rw (get_or-remove_above places at 0 k above at_there) (places_differ (k + 1) at (omega (arith, lt, length_less)) at_there (λ same. (let e : k + 1 ≡ at = same in omega (arith, e, above))))
    ]

    -- the removed feature is the last one itself
    module _ (no_more : last ≤ place) where
      kept_places : (k : ℕ) → k < length (remove places at)
          → (get_or (remove places at) k 0 ≡ last → get_or (remove places at) k 0 ≡ get_or places at 0) × (get_or (remove places at) k 0 ≢ last → get_or (remove places at) k 0 ≡ get_or (remove places at) k 0)
      kept_places k lt = (λ is_last. omega (arith, is_last, no_more, place_same, tied.in_range at 0 at_there, shorter, last_is), λ other. refl)

      pub rows_without_last : rows_at (remove places at) swapped ≡ without id rows
      rows_without_last = rows_out id at is swapped (remove places at) last (omega (arith, last_is, shorter)) (sym last_is) moves_there stay_there refl kept_places

      pub tied_without_last : AreTied (remove ids at) (remove places at) swapped
      tied_without_last = tied_out id at is swapped (remove places at) last (omega (arith, last_is, shorter)) (sym last_is) moves_there stay_there refl kept_places

    -- another one is removed
    module _ (more : place < last) (moved : Feature) (got : moved ≡ get_or swapped place moved) (new : List ℕ) (told : IsRenumbered (remove ids at) moved.id last place (remove places at) new) where
      moved_is : moved ≡ feature_at features last
      moved_is = got ∙ get_or_default swapped place moved blank (omega (arith, more, last_is)) ∙ rw (← end_is) (by_index.0 blank (omega (arith, more, n_is, last_is, shorter)))

      new_places : (k : ℕ) → k < length new
          → (get_or (remove places at) k 0 ≡ last → get_or new k 0 ≡ get_or places at 0) × (get_or (remove places at) k 0 ≢ last → get_or new k 0 ≡ get_or (remove places at) k 0)
      new_places k lt =
          let within : k < length (remove places at) = omega (arith, lt, told.len) in (
            λ is_last. (let same : get_or (remove ids at) k 0 ≡ moved.id = ids_less k within ∙ ap (λ place. (feature_at features place).id) is_last ∙ ap (λ row. row.id) (sym moved_is) in
                told.by_index k 0 within ∙ rw (eq-eqb _ _ same, eq-eqb _ _ is_last) place_same),
            λ other. told.by_index k 0 within ∙ rw (ne_eqb _ _ other, and_false (eqb (get_or (remove ids at) k 0) moved.id)) refl,
          )

      pub rows_with_moved : rows_at new swapped ≡ without id rows
      rows_with_moved = rows_out id at is swapped new last (omega (arith, last_is, shorter)) (sym last_is) moves_there stay_there told.len new_places

      pub tied_with_moved : AreTied (remove ids at) new swapped
      tied_with_moved = tied_out id at is swapped new last (omega (arith, last_is, shorter)) (sym last_is) moves_there stay_there told.len new_places

  pub rising_less : (id at : ℕ) → IsAt id ids at → AreRising (remove ids at)
  rising_less id at is = subst AreRising (sym (ap (λ xs. remove xs at) tied.ids_told ∙ sym (map-remove (λ row. row.id) rows at) ∙ ap ids_of (remove_at id rows at tied.sorted (at_row id at is)))) (ids_rising (without id rows) (sorted_without id rows tied.sorted))

-- the places, where that of an id is changed from `from` to `to`, or is unchanged
module _ (ids places : List ℕ) (id at from to : ℕ) (rising_ids : AreRising ids) (same_length : length ids ≡ length places) (is : IsAt id ids at) where
  other_id : (k d : ℕ) → k < length places → k ≢ at → get_or ids k d ≢ id
  other_id k d lt apart same = differ_at ids k at d rising_ids (omega (arith, lt, same_length)) is.in_range apart (same ∙ sym (is.has_id d))

  pub renumbered_at : (d : ℕ) → get_or places at d ≡ from → IsRenumbered ids id from to places (set places at to)
  renumbered_at e there = record {
    len = length-set places at to;
    by_index = λ k d lt. elim (cases_eq k at) [
      | inl same ↦ rw (same, eq-eqb _ _ (is.has_id d), eq-eqb _ _ (get_or_default places at d e (omega (arith, is.in_range, same_length)) ∙ there)) (get_or-set_same places at to d (omega (arith, is.in_range, same_length)))
      | inr apart ↦ rw (ne_eqb _ _ (other_id k d lt apart)) (get_or-set_other places at k to d apart)
    ];
  }

  pub left_at : (d : ℕ) → get_or places at d ≢ from → IsRenumbered ids id from to places places
  left_at e elsewhere = record {
    len = refl;
    by_index = λ k d lt. elim (cases_eq k at) [
      | inl same ↦ rw (same, eq-eqb _ _ (is.has_id d), ne_eqb _ _ (λ there. elsewhere (get_or_default places at e d (omega (arith, is.in_range, same_length)) ∙ there))) refl
      | inr apart ↦ rw (ne_eqb _ _ (other_id k d lt apart)) refl
    ];
  }
