-- The effect of one change on a list sorted by id.
use Rattle.std.proofs.Common.{◌≡◌, ◌≢◌, ℕ, zero, suc, ◌+◌, ◌<◌, eqb, ltb, List, [], ◌∷◌, length, set, get_or, Option, Some, None, if◌then◌else◌, Bool, true, false, refl, ap, arith}
use Rattle.std.specs.Option.{IsSome}
use Rattle.std.specs.List.{insert, remove}
use Rattle.std.proofs.lemmas.Bool.Decides.{nat_tests}
use Rattle.std.proofs.lemmas.Bool.{false≢true}
use borrow.Author.Tests.{ltb-true}
use Rattle.plane.specs.declared.point.Point.{Point}
use Rattle.features.specs.declared.rows.Feature.{Feature}
use Rattle.feature_store.specs.Places.{IsLess, AreRising, IsAt, IsGapFor}
use Rattle.features.specs.Rows.{feature_with, with_row, with_shape, without, IsBelowAll, IsSortedById}
use Rattle.feature_store.specs.Tables.{ids_of}
use Rattle.feature_store.proofs.PlaceLemmas.{less_at, gap_tail, gap_behind, at_tail}

less_than_ids : (id : ℕ) (rows : List Feature) → IsBelowAll id rows → IsLess id (ids_of rows)
less_than_ids id [] below = tt
less_than_ids id (row ∷ rows) below = (below.0, less_than_ids id rows below.1)

pub ids_rising : (rows : List Feature) → IsSortedById rows → AreRising (ids_of rows)
ids_rising [] sorted = tt
ids_rising (row ∷ rows) sorted = (less_than_ids row.id rows sorted.0, ids_rising rows sorted.1)

-- an id that comes later is not the first one's
first_differs : (id : ℕ) (row : Feature) (rows : List Feature) (i : ℕ) → IsSortedById (row ∷ rows) → IsAt id (ids_of rows) i → row.id < id
first_differs id row rows i sorted at = omega (arith, less_at row.id (ids_of rows) i 0 (less_than_ids row.id rows sorted.0) at.in_range, at.has_id 0)

pub found_at : (id : ℕ) (rows : List Feature) (i : ℕ) (d : Feature) → IsSortedById rows → IsAt id (ids_of rows) i → feature_with id rows ≡ Some (get_or rows i d)
found_at id [] i d sorted at = absurd (omega (arith, at.in_range))
found_at id (row ∷ rows) zero d sorted at = grind (arith, nat_tests, at.has_id 0)
found_at id (row ∷ rows) (suc i) d sorted at =
    let tail = at_tail id row.id (ids_of rows) i at in
    grind (arith, nat_tests, first_differs id row rows i sorted tail, found_at id rows i d sorted.1 tail)

-- an id that has a gap is not found
pub absent_at_gap : (id : ℕ) (rows : List Feature) (i : ℕ) → IsGapFor id (ids_of rows) i → feature_with id rows ≡ None
absent_at_gap id [] i gap = refl
absent_at_gap id (row ∷ rows) zero gap = grind (arith, nat_tests, gap.greater_after zero 0 (omega arith) (omega arith), absent_at_gap id rows zero (gap_behind id row.id (ids_of rows) gap))
absent_at_gap id (row ∷ rows) (suc i) gap = grind (arith, nat_tests, gap.smaller_before zero 0 (omega arith), absent_at_gap id rows i (gap_tail id row.id (ids_of rows) i gap))

pub not_both : (o : Option Feature) → o ≡ None → IsSome o → ⊥
not_both None none some = false≢true some
not_both (Some row) none some = absurd cc

-- inserting at the gap adds a feature in order
pub insert_at_gap : (new : Feature) (rows : List Feature) (i : ℕ) → IsGapFor new.id (ids_of rows) i → insert rows i new ≡ with_row new rows
insert_at_gap new [] zero gap = refl
insert_at_gap new [] (suc i) gap = absurd (omega (arith, gap.in_range))
insert_at_gap new (row ∷ rows) zero gap = grind (arith, nat_tests, gap.greater_after zero 0 (omega arith) (omega arith))
insert_at_gap new (row ∷ rows) (suc i) gap = grind (arith, nat_tests, gap.smaller_before zero 0 (omega arith), insert_at_gap new rows i (gap_tail new.id row.id (ids_of rows) i gap))

-- removing at its index removes a feature
pub remove_at : (id : ℕ) (rows : List Feature) (i : ℕ) → IsSortedById rows → IsAt id (ids_of rows) i → remove rows i ≡ without id rows
remove_at id [] i sorted at = absurd (omega (arith, at.in_range))
remove_at id (row ∷ rows) zero sorted at = grind (arith, nat_tests, at.has_id 0)
remove_at id (row ∷ rows) (suc i) sorted at =
    let tail = at_tail id row.id (ids_of rows) i at in
    grind (arith, nat_tests, first_differs id row rows i sorted tail, remove_at id rows i sorted.1 tail)

abbrev pub reshaped : ℕ → List Point → Feature → Feature
reshaped version shape row = record row { version = version; shape = shape }

-- writing at its index reshapes a feature
pub set_at : (id version : ℕ) (shape : List Point) (rows : List Feature) (i : ℕ) (d : Feature) → IsSortedById rows → IsAt id (ids_of rows) i → set rows i (reshaped version shape (get_or rows i d)) ≡ with_shape id version shape rows
set_at id version shape [] i d sorted at = absurd (omega (arith, at.in_range))
set_at id version shape (row ∷ rows) zero d sorted at = grind (arith, nat_tests, at.has_id 0)
set_at id version shape (row ∷ rows) (suc i) d sorted at =
    let tail = at_tail id row.id (ids_of rows) i at in
    grind (arith, nat_tests, first_differs id row rows i sorted tail, set_at id version shape rows i d sorted.1 tail)

below_with_row : (id : ℕ) (new : Feature) (rows : List Feature) → id < new.id → IsBelowAll id rows → IsBelowAll id (with_row new rows)
below_with_row id new [] lt below = (lt, tt)
below_with_row id new (row ∷ rows) lt below = go (ltb new.id row.id) (below_with_row id new rows lt below.1)
  where
    go : (v : Bool) → IsBelowAll id (with_row new rows) → IsBelowAll id (if v then new ∷ row ∷ rows else row ∷ with_row new rows)
    go true rest = (lt, below)
    go false rest = (below.0, rest)

below_trans : (a b : ℕ) (rows : List Feature) → a < b → IsBelowAll b rows → IsBelowAll a rows
below_trans a b [] lt below = tt
below_trans a b (row ∷ rows) lt below = (omega (arith, below.0), below_trans a b rows lt below.1)

-- adding a feature that was absent keeps the list sorted
pub sorted_with_row : (new : Feature) (rows : List Feature) → IsSortedById rows → feature_with new.id rows ≡ None → IsSortedById (with_row new rows)
sorted_with_row new [] sorted absent = (tt, tt)
sorted_with_row new (row ∷ rows) sorted absent = go (ltb new.id row.id) (eqb row.id new.id) refl refl absent (sorted_with_row new rows sorted.1)
  where
    go : (v w : Bool) → ltb new.id row.id ≡ v → eqb row.id new.id ≡ w → (if w then Some row else feature_with new.id rows) ≡ None
        → (feature_with new.id rows ≡ None → IsSortedById (with_row new rows)) → IsSortedById (if v then new ∷ row ∷ rows else row ∷ with_row new rows)
    go true w below same absent rest =
        let lt : new.id < row.id = ltb-true new.id row.id below in
        ((lt, below_trans new.id row.id rows lt sorted.0), sorted)
    go false true below same absent rest = absurd cc
    go false false below same absent rest =
        let lt : row.id < new.id = grind (arith, nat_tests) in
        (below_with_row row.id new rows lt sorted.0, rest absent)

-- the other features are unchanged
pub feature_with-with_row : (id : ℕ) (new : Feature) (rows : List Feature) → new.id ≢ id → feature_with id (with_row new rows) ≡ feature_with id rows
feature_with-with_row id new [] other = grind (arith, nat_tests, other)
feature_with-with_row id new (row ∷ rows) other = go (ltb new.id row.id) (feature_with-with_row id new rows other)
  where
    go : (v : Bool) → feature_with id (with_row new rows) ≡ feature_with id rows → feature_with id (if v then new ∷ row ∷ rows else row ∷ with_row new rows) ≡ feature_with id (row ∷ rows)
    go true rest = grind (arith, nat_tests, other)
    go false rest = grind (arith, nat_tests, rest)

pub length-with_row : (new : Feature) (rows : List Feature) → length (with_row new rows) ≡ length rows + 1
length-with_row new [] = refl
length-with_row new (row ∷ rows) = go (ltb new.id row.id) (length-with_row new rows)
  where
    go : (v : Bool) → length (with_row new rows) ≡ length rows + 1 → length (if v then new ∷ row ∷ rows else row ∷ with_row new rows) ≡ length (row ∷ rows) + 1
    go true rest = omega arith
    go false rest = omega arith

-- a reshape changes no id
module _ (id version : ℕ) (shape : List Point) where
  pub ids-with_shape : (rows : List Feature) → ids_of (with_shape id version shape rows) ≡ ids_of rows
  ids-with_shape [] = refl
  ids-with_shape (row ∷ rows) = go (eqb row.id id) (ids-with_shape rows)
    where
      go : (v : Bool) → ids_of (with_shape id version shape rows) ≡ ids_of rows
          → ids_of (if v then reshaped version shape row ∷ rows else row ∷ with_shape id version shape rows) ≡ ids_of (row ∷ rows)
      go true rest = refl
      go false rest = ap (λ ids. row.id ∷ ids) rest

  below_with_shape : (other : ℕ) (rows : List Feature) → IsBelowAll other rows → IsBelowAll other (with_shape id version shape rows)
  below_with_shape other [] below = tt
  below_with_shape other (row ∷ rows) below = go (eqb row.id id) (below_with_shape other rows below.1)
    where
      go : (v : Bool) → IsBelowAll other (with_shape id version shape rows) → IsBelowAll other (if v then reshaped version shape row ∷ rows else row ∷ with_shape id version shape rows)
      go true rest = (below.0, below.1)
      go false rest = (below.0, rest)

  pub sorted_with_shape : (rows : List Feature) → IsSortedById rows → IsSortedById (with_shape id version shape rows)
  sorted_with_shape [] sorted = tt
  sorted_with_shape (row ∷ rows) sorted = go (eqb row.id id) (sorted_with_shape rows sorted.1)
    where
      go : (v : Bool) → IsSortedById (with_shape id version shape rows) → IsSortedById (if v then reshaped version shape row ∷ rows else row ∷ with_shape id version shape rows)
      go true rest = (sorted.0, sorted.1)
      go false rest = (below_with_shape row.id rows sorted.0, rest)

  pub feature_with-with_shape : (other : ℕ) (rows : List Feature) → id ≢ other → feature_with other (with_shape id version shape rows) ≡ feature_with other rows
  feature_with-with_shape other [] apart = refl
  feature_with-with_shape other (row ∷ rows) apart = go (eqb row.id id) refl (feature_with-with_shape other rows apart)
    where
      go : (v : Bool) → eqb row.id id ≡ v → feature_with other (with_shape id version shape rows) ≡ feature_with other rows
          → feature_with other (if v then reshaped version shape row ∷ rows else row ∷ with_shape id version shape rows) ≡ feature_with other (row ∷ rows)
      go true is rest = grind (arith, nat_tests, apart, is)
      go false is rest = grind (arith, nat_tests, rest)

  pub length-with_shape : (rows : List Feature) → length (with_shape id version shape rows) ≡ length rows
  length-with_shape [] = refl
  length-with_shape (row ∷ rows) = go (eqb row.id id) (length-with_shape rows)
    where
      go : (v : Bool) → length (with_shape id version shape rows) ≡ length rows
          → length (if v then reshaped version shape row ∷ rows else row ∷ with_shape id version shape rows) ≡ length (row ∷ rows)
      go true rest = refl
      go false rest = omega (arith, rest)

module _ (id : ℕ) where
  below_without : (other : ℕ) (rows : List Feature) → IsBelowAll other rows → IsBelowAll other (without id rows)
  below_without other [] below = tt
  below_without other (row ∷ rows) below = go (eqb row.id id) (below_without other rows below.1)
    where
      go : (v : Bool) → IsBelowAll other (without id rows) → IsBelowAll other (if v then rows else row ∷ without id rows)
      go true rest = below.1
      go false rest = (below.0, rest)

  pub sorted_without : (rows : List Feature) → IsSortedById rows → IsSortedById (without id rows)
  sorted_without [] sorted = tt
  sorted_without (row ∷ rows) sorted = go (eqb row.id id) (sorted_without rows sorted.1)
    where
      go : (v : Bool) → IsSortedById (without id rows) → IsSortedById (if v then rows else row ∷ without id rows)
      go true rest = sorted.1
      go false rest = (below_without row.id rows sorted.0, rest)

  pub feature_with-without : (other : ℕ) (rows : List Feature) → id ≢ other → feature_with other (without id rows) ≡ feature_with other rows
  feature_with-without other [] apart = refl
  feature_with-without other (row ∷ rows) apart = go (eqb row.id id) refl (feature_with-without other rows apart)
    where
      go : (v : Bool) → eqb row.id id ≡ v → feature_with other (without id rows) ≡ feature_with other rows → feature_with other (if v then rows else row ∷ without id rows) ≡ feature_with other (row ∷ rows)
      go true is rest = grind (arith, nat_tests, apart, is)
      go false is rest = grind (arith, nat_tests, rest)

  pub length-without : (rows : List Feature) → IsSome (feature_with id rows) → length (without id rows) + 1 ≡ length rows
  length-without [] some = absurd cc
  length-without (row ∷ rows) some = go (eqb row.id id) some (length-without rows)
    where
      go : (v : Bool) → IsSome (if v then Some row else feature_with id rows) → (IsSome (feature_with id rows) → length (without id rows) + 1 ≡ length rows)
          → length (if v then rows else row ∷ without id rows) + 1 ≡ length (row ∷ rows)
      go true some rest = omega arith
      go false some rest = omega (arith, rest some)
