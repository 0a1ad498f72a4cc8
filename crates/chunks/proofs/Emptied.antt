-- The places of a block that a loop empties from the front, and those that another fills.
use Rattle.std.proofs.Common.{◌≡◌, ℕ, ◌+◌, ◌<◌, ◌≤◌, List, Option, Some, None, IsSome, length, get_or, set, replicate, refl, sym, ap, subst, ◌∙◌, inl, inr, arith, length-set, ext_get_or}
use Rattle.std.proofs.lemmas.Bool.{cases_eq, cases_lt}
use Rattle.std.proofs.lemmas.List.{get_or-set_same, get_or-set_other, get_or_past}
use lib.ListN.{length-replicate, get_or-replicate}
use Rattle.chunks.specs.Blocks.{IsFull, IsFreeFrom, SameItems}

module _ {X : Type 0} where
  abbrev nothing : Option X
  nothing = None

  pub none-replicate : (n i : ℕ) → get_or (replicate n None) i nothing ≡ None
  none-replicate n i = elim (cases_lt i n) [
    | inl within ↦ get_or-replicate n i None None within
    | inr past ↦ get_or_past (replicate n None) i None (subst (λ (m : ℕ). m ≤ i) (sym (length-replicate n nothing)) past)
  ]

  pub all_none : (items : List (Option X)) → IsFreeFrom items 0 → items ≡ replicate (length items) None
  all_none items free = ext_get_or None items (replicate (length items) None) (sym (length-replicate (length items) None)) (λ i within. free i (omega arith) ∙ sym (none-replicate (length items) i))

  -- `now` is `old` with its first places emptied
  pub record IsEmptied (old now : List (Option X)) (upto : ℕ) : Type 0 where
    pub size : length now ≡ length old
    pub below : (k : ℕ) → k < upto → get_or now k None ≡ None
    pub rest : (k : ℕ) → upto ≤ k → get_or now k None ≡ get_or old k None

  pub IsEmptied-start : (items : List (Option X)) → IsEmptied items items 0
  IsEmptied-start items = record { size = refl; below = λ k lt. absurd (omega arith); rest = λ k le. refl }

  pub IsEmptied-step : (old now : List (Option X)) (place : ℕ) → place < length now → IsEmptied old now place → IsEmptied old (set now place None) (place + 1)
  IsEmptied-step old now place within was = record {
    size = length-set now place None ∙ was.size;
    below = λ k lt. elim (cases_eq k place) [
      | inl same ↦ ap (λ (j : ℕ). get_or (set now place None) j None) same ∙ get_or-set_same now place None None within
      | inr other ↦ get_or-set_other now place k None None other ∙ was.below k (omega arith)
    ];
    rest = λ k le. get_or-set_other now place k None None (λ same. omega arith) ∙ was.rest k (omega arith);
  }

  -- `now` has the first values of `old`, and no others
  pub record IsPoured (old now : List (Option X)) (size upto : ℕ) : Type 0 where
    pub size_is : length now ≡ size
    pub below : (k : ℕ) → k < upto → get_or now k None ≡ get_or old k None
    pub rest : (k : ℕ) → upto ≤ k → get_or now k None ≡ None

  pub IsPoured-start : (old now : List (Option X)) (size : ℕ) → now ≡ replicate size None → IsPoured old now size 0
  IsPoured-start old now size empty = record {
    size_is = ap length empty ∙ length-replicate size None;
    below = λ k lt. absurd (omega arith);
    rest = λ k le. ap (λ items. get_or items k None) empty ∙ none-replicate size k;
  }

  pub IsPoured-step : (old now : List (Option X)) (size place : ℕ) (value : X) → place < size → get_or old place None ≡ Some value → IsPoured old now size place → IsPoured old (set now place (Some value)) size (place + 1)
  IsPoured-step old now size place value within had was = record {
    size_is = length-set now place (Some value) ∙ was.size_is;
    below = λ k lt. elim (cases_eq k place) [
      | inl same ↦ ap (λ (j : ℕ). get_or (set now place (Some value)) j None) same ∙ get_or-set_same now place (Some value) None (subst (λ (n : ℕ). place < n) (sym was.size_is) within) ∙ sym had ∙ ap (λ (j : ℕ). get_or old j None) (sym same)
      | inr other ↦ get_or-set_other now place k (Some value) None other ∙ was.below k (omega arith)
    ];
    rest = λ k le. get_or-set_other now place k (Some value) None (λ same. omega arith) ∙ was.rest k (omega arith);
  }

  pub SameItems-poured : (old now : List (Option X)) (size count : ℕ) → IsPoured old now size count → IsFreeFrom old count → SameItems old now
  SameItems-poured old now size count poured free k = elim (cases_lt k count) [
    | inl below ↦ poured.below k below
    | inr from ↦ poured.rest k from ∙ sym (free k from)
  ]

  pub IsFreeFrom-emptied : (old now : List (Option X)) (count : ℕ) → IsEmptied old now count → IsFreeFrom old count → IsFreeFrom now 0
  IsFreeFrom-emptied old now count emptied free k le = elim (cases_lt k count) [
    | inl below ↦ emptied.below k below
    | inr from ↦ emptied.rest k from ∙ free k from
  ]

  pub IsSome-emptied : (old now : List (Option X)) (place : ℕ) → IsEmptied old now place → IsSome (get_or old place None) → IsSome (get_or now place None)
  IsSome-emptied old now place emptied filled = subst IsSome (sym (emptied.rest place (omega arith))) filled
