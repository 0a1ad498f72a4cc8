-- Rising lists of ids.
use Rattle.std.proofs.Common.{◌≡◌, ◌≢◌, ℕ, zero, suc, ◌<◌, ◌≤◌, List, [], ◌∷◌, length, get_or, inl, inr, arith}
use Rattle.std.proofs.lemmas.Bool.{cases_lt}
use Rattle.feature_store.specs.Places.{IsLess, AreRising, IsAt, IsGapFor}

-- an id that is less than a list is less than each of its ids
pub less_at : (id : ℕ) (ids : List ℕ) (j d : ℕ) → IsLess id ids → j < length ids → id < get_or ids j d
less_at id [] j d less lt = absurd (omega arith)
less_at id (other ∷ ids) zero d less lt = less.0
less_at id (other ∷ ids) (suc j) d less lt = less_at id ids j d less.1 (omega arith)

strictly_rising_at : (ids : List ℕ) (i j d : ℕ) → AreRising ids → i < j → j < length ids → get_or ids i d < get_or ids j d
strictly_rising_at [] i j d rising less lt = absurd (omega arith)
strictly_rising_at (id ∷ ids) i zero d rising less lt = absurd (omega arith)
strictly_rising_at (id ∷ ids) zero (suc j) d rising less lt = less_at id ids j d rising.0 (omega arith)
strictly_rising_at (id ∷ ids) (suc i) (suc j) d rising less lt = strictly_rising_at ids i j d rising.1 (omega arith) (omega arith)

-- no id is at two indices
pub differ_at : (ids : List ℕ) (i j d : ℕ) → AreRising ids → i < length ids → j < length ids → i ≢ j → get_or ids i d ≢ get_or ids j d
differ_at ids i j d rising i_in j_in apart same = elim (cases_lt i j) [
  | inl lt ↦ (let up = strictly_rising_at ids i j d rising lt j_in in omega (arith, up, same))
  | inr le ↦ (let up = strictly_rising_at ids j i d rising (let ne : i ≡ j → ⊥ = apart in omega (arith, le, ne)) i_in in omega (arith, up, same))
]

pub rising_at : (ids : List ℕ) (i j d : ℕ) → AreRising ids → i ≤ j → j < length ids → get_or ids i d ≤ get_or ids j d
rising_at [] i j d rising le lt = absurd (omega arith)
rising_at (id ∷ ids) zero zero d rising le lt = omega arith
rising_at (id ∷ ids) zero (suc j) d rising le lt = omega (arith, less_at id ids j d rising.0 (omega arith))
rising_at (id ∷ ids) (suc i) zero d rising le lt = absurd (omega arith)
rising_at (id ∷ ids) (suc i) (suc j) d rising le lt = rising_at ids i j d rising.1 (omega arith) (omega arith)

pub gap_tail : (id other : ℕ) (ids : List ℕ) (i : ℕ) → IsGapFor id (other ∷ ids) (suc i) → IsGapFor id ids i
gap_tail id other ids i gap = record {
  in_range = omega (arith, gap.in_range);
  smaller_before = λ j d lt. gap.smaller_before (suc j) d (omega arith);
  greater_after = λ j d le lt. gap.greater_after (suc j) d (omega arith) (omega arith);
}

pub gap_behind : (id other : ℕ) (ids : List ℕ) → IsGapFor id (other ∷ ids) zero → IsGapFor id ids zero
gap_behind id other ids gap = record {
  in_range = omega arith;
  smaller_before = λ j d lt. absurd (omega arith);
  greater_after = λ j d le lt. gap.greater_after (suc j) d (omega arith) (omega arith);
}

pub at_tail : (id other : ℕ) (ids : List ℕ) (i : ℕ) → IsAt id (other ∷ ids) (suc i) → IsAt id ids i
at_tail id other ids i at = record { in_range = omega (arith, at.in_range); has_id = at.has_id }
