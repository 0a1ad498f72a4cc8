-- The index of an id in a rising list of ids, or the index at which it would be inserted.
use Rattle.std.specs.Prelude.{◌≡◌, ℕ, ◌<◌, ◌≤◌, List, [], ◌∷◌, length, slice_index_or}

-- the id is less than all of these
abbrev pub IsLess : ℕ → List ℕ → Type 0
IsLess id [] = Unit {0}
IsLess id (other ∷ ids) = (id < other) × IsLess id ids

-- each id is less than those after it
abbrev pub AreRising : List ℕ → Type 0
AreRising [] = Unit {0}
AreRising (id ∷ ids) = IsLess id ids × AreRising ids

-- the id is at index i
pub record IsAt (id : ℕ) (ids : List ℕ) (i : ℕ) : Type 0 where
  pub in_range : i < length ids
  pub has_id : (d : ℕ) → slice_index_or ids i d ≡ id

-- the id would be inserted at index i: smaller ids before it, greater ids from it on
pub record IsGapFor (id : ℕ) (ids : List ℕ) (i : ℕ) : Type 0 where
  pub in_range : i ≤ length ids
  pub smaller_before : (j d : ℕ) → j < i → slice_index_or ids j d < id
  pub greater_after : (j d : ℕ) → i ≤ j → j < length ids → id < slice_index_or ids j d
