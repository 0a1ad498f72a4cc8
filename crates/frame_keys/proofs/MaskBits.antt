-- Masks with a bit for each key.
use Rattle.std.specs.Prelude.{◌≡◌, ◌≢◌, ◌↔◌, ℕ, zero, suc, ◌+◌, ◌-◌, ◌/◌, ◌%◌, ◌^◌, ◌<◌, List, Some, Bool, true, false, IsTrue, IsBitSet, count_ones, slice_get}
use Rattle.std.proofs.Common.{arith, refl, sym, ◌∙◌, subst, ⊎_elim}
use Rattle.std.proofs.lemmas.Bool.{cases_lt, false≢true}
use Rattle.std.proofs.lemmas.Option.{get_or_from_slice_get}
use Rattle.plane.specs.Extents.{Extent}
use lib.Count.{ones_step, ones-le}
use native.Mathlib.Nat.{two-pow-succ}
use Rattle.std.specs.Int.{w16, trailing_zeros}
use Rattle.std.proofs.lemmas.Nat.Bits.{bit_at-trailing_zeros, shr_and_one}
use Rattle.std.proofs.lemmas.Nat.{ones_le_self, bit_set_by_shift}
use Rattle.frame_keys.specs.Splits.{IsEven}

pub half_set : count_ones 65280 ≡ 8
unfolding lib.Count.ones
half_set = refl

-- for each of the first n keys, its bit says whether it has the property; no later bit is set
pub record Tells (P : ℕ → Extent → Type 0) (keys : List Extent) (mask n : ℕ) : Type 0 where
  pub each : (i : ℕ) (key : Extent) → i < n → slice_get keys i ≡ Some key → (IsBitSet mask i ↔ P i key)
  pub no_other : (i : ℕ) → IsBitSet mask i → i < n

pub same_key : (keys : List Extent) (i : ℕ) (a b : Extent) → slice_get keys i ≡ Some a → slice_get keys i ≡ Some b → a ≡ b
same_key keys i a b p q = sym (get_or_from_slice_get keys i a a p) ∙ get_or_from_slice_get keys i b a q

-- the key at the next index
next_key : (P : ℕ → Extent → Type 0) (keys : List Extent) (n i : ℕ) (key k : Extent) → slice_get keys n ≡ Some key → i ≡ n → slice_get keys i ≡ Some k → (P n key ↔ P i k)
next_key P keys n i key k here e found =
    let same : key ≡ k = same_key keys n key k here (subst (λ j. slice_get keys j ≡ Some k) e found) in
    (λ h. subst (λ j. P j k) (sym e) (subst (P n) same h), λ h. subst (P n) (sym same) (subst (λ j. P j k) e h))

-- the next key has the property, and its bit is set
pub tells_set : (P : ℕ → Extent → Type 0) (keys : List Extent) (mask next n : ℕ) (key : Extent) → slice_get keys n ≡ Some key → P n key
    → IsBitSet next n → ((i : ℕ) → i ≢ n → (IsBitSet next i ↔ IsBitSet mask i)) → Tells P keys mask n → Tells P keys next (n + 1)
tells_set P keys mask next n key here holds set others told = record { each = each; no_other = no_other }
  where
    last : (i : ℕ) (k : Extent) → i ≡ n → slice_get keys i ≡ Some k → (IsBitSet next i ↔ P i k)
    last i k e found = (λ s. (next_key P keys n i key k here e found).0 holds, λ h. subst (λ j. IsBitSet next j) (sym e) set)

    earlier : (i : ℕ) (k : Extent) → i < n → slice_get keys i ≡ Some k → (IsBitSet next i ↔ P i k)
    earlier i k below found =
        let other = others i (λ e. omega arith) in
        let so = told.each i k below found in
        (λ s. so.0 (other.0 s), λ h. other.1 (so.1 h))

    each : (i : ℕ) (k : Extent) → i < n + 1 → slice_get keys i ≡ Some k → (IsBitSet next i ↔ P i k)
    each i k within found = ⊎_elim (λ below. earlier i k below found) (λ past. last i k (omega arith) found) (cases_lt i n)

    no_other : (i : ℕ) → IsBitSet next i → i < n + 1
    no_other i s = ⊎_elim (λ below. omega arith) (λ past. ⊎_elim (λ above. absurd (let h = told.no_other i ((others i (λ e. omega arith)).0 s) in omega arith)) (λ le. omega arith) (cases_lt n i)) (cases_lt i n)

-- the next key does not have it, and its bit is not set
pub tells_not : (P : ℕ → Extent → Type 0) (keys : List Extent) (mask n : ℕ) (key : Extent) → slice_get keys n ≡ Some key → (P n key → ⊥) → Tells P keys mask n → Tells P keys mask (n + 1)
tells_not P keys mask n key here fails told = record { each = each; no_other = λ i s. let h = told.no_other i s in omega arith }
  where
    last : (i : ℕ) (k : Extent) → i ≡ n → slice_get keys i ≡ Some k → (IsBitSet mask i ↔ P i k)
    last i k e found = (λ s. absurd (let h = told.no_other i s in omega arith), λ h. absurd (fails ((next_key P keys n i key k here e found).1 h)))

    each : (i : ℕ) (k : Extent) → i < n + 1 → slice_get keys i ≡ Some k → (IsBitSet mask i ↔ P i k)
    each i k within found = ⊎_elim (λ below. told.each i k below found) (λ past. last i k (omega arith) found) (cases_lt i n)

-- the next key's bit is set exactly if a test passes that tells whether it has the property
pub tells_tested : (P : ℕ → Extent → Type 0) (keys : List Extent) (mask next n : ℕ) (key : Extent) → slice_get keys n ≡ Some key → (tested : Bool) → (IsTrue tested ↔ P n key)
    → (IsTrue tested → IsBitSet next n) → ((i : ℕ) → i ≢ n → (IsBitSet next i ↔ IsBitSet mask i)) → (tested ≡ false → next ≡ mask) → Tells P keys mask n → Tells P keys next (n + 1)
tells_tested P keys mask next n key here true exact set others unset told = tells_set P keys mask next n key here (exact.0 refl) (set refl) others told
tells_tested P keys mask next n key here false exact set others unset told = subst (λ m. Tells P keys m (n + 1)) (sym (unset refl)) (tells_not P keys mask n key here (λ h. false≢true (exact.1 h)) told)

-- a mask of w bits and its complement have w bits set together
pub ones_both : (w n : ℕ) → n < 2 ^ w → count_ones n + count_ones (2 ^ w - 1 - n) ≡ w
ones_both zero n h = omega (arith, ones-le 0 n h, ones-le 0 (2 ^ 0 - 1 - n) (omega arith))
ones_both (suc w) n h =
    let half = ones_both w (n / 2) (omega (arith, two-pow-succ w)) in
    let rest : (2 ^ suc w - 1 - n) / 2 ≡ 2 ^ w - 1 - n / 2 = omega (arith, two-pow-succ w) in
    let last : (2 ^ suc w - 1 - n) % 2 ≡ 1 - n % 2 = omega (arith, two-pow-succ w) in
    let other : count_ones (2 ^ suc w - 1 - n) ≡ (1 - n % 2) + count_ones (2 ^ w - 1 - n / 2) = ones_step (2 ^ suc w - 1 - n) ∙ (λ i. last i + count_ones (rest i)) in
    omega (arith, ones_step n, other, half)

-- the other part is even too
pub rest_even : (part : ℕ) → part < 2 ^ 16 → IsEven part → IsEven (65535 - part)
rest_even part fits even =
    let both = ones_both 16 part (omega (arith, fits)) in
    record { least = omega (arith, both, even.most); most = omega (arith, both, even.least) }

pub rest_some : (part : ℕ) → part < 2 ^ 16 → IsEven part → 0 < 65535 - part
rest_some part fits even = let rest = rest_even part fits even in omega (arith, ones_le_self (65535 - part), rest.least)

-- the lowest bit that is set
pub lowest : (mask : ℕ) → 0 < mask → mask < 2 ^ 16 → (trailing_zeros w16 mask < 16) × IsBitSet mask (trailing_zeros w16 mask)
lowest mask some fits =
    let found = bit_at-trailing_zeros w16 mask some fits in
    (found.0, (bit_set_by_shift mask (trailing_zeros w16 mask)).0 (shr_and_one mask (trailing_zeros w16 mask) ∙ found.1))
