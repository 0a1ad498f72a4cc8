-- The least frame of the keys of a mask.
use Rattle.std.specs.Prelude.{◌≡◌, ℕ, ◌+◌, ◌<◌, ◌≤◌, List, Some, IsBitSet, length, slice_get}
use Rattle.std.proofs.Common.{arith, subst, ⊎_elim}
use Rattle.std.proofs.lemmas.Bool.{cases_lt}
use Rattle.std.proofs.lemmas.Option.{slice_get_within}
use Rattle.plane.specs.Extents.{Extent, joined}
use Rattle.frame_keys.proofs.MaskBits.{same_key}
use Rattle.frame_keys.specs.Keys.{Encloses}
use Rattle.frame_keys.specs.Laws.{frames_reflexive, frames_transitive, frames_covers_first, frames_covers_second, frames_least}
use Rattle.frame_keys.specs.Splits.{EnclosesAll, IsLeastOf}

-- the least extent so far: it encloses the mask's keys among the first n, and is enclosed by
-- whatever encloses all keys of the mask
pub record IsLeastOfFirst (e : Extent) (keys : List Extent) (mask n : ℕ) : Type 0 where
  pub encloses : (i : ℕ) (key : Extent) → i < n → slice_get keys i ≡ Some key → IsBitSet mask i → Encloses e key
  pub least : (f : Extent) → EnclosesAll f keys mask → Encloses f e

pub from_one : (keys : List Extent) (mask at : ℕ) (key : Extent) → slice_get keys at ≡ Some key → IsBitSet mask at → IsLeastOfFirst key keys mask 0
from_one keys mask at key here set = record { encloses = λ i k below found s. absurd (omega arith); least = λ f all. all at key here set }

each_next : (e f : Extent) (keys : List Extent) (mask n : ℕ) (key : Extent) → slice_get keys n ≡ Some key → Encloses f e → (IsBitSet mask n → Encloses f key) → IsLeastOfFirst e keys mask n
    → (i : ℕ) (k : Extent) → i < n + 1 → slice_get keys i ≡ Some k → IsBitSet mask i → Encloses f k
each_next e f keys mask n key here wider last told i k below found set =
    ⊎_elim (λ less. frames_transitive f e k wider (told.encloses i k less found set)) (λ past. at (omega arith)) (cases_lt i n)
  where
    at : i ≡ n → Encloses f k
    at same = subst (λ other. Encloses f other) (same_key keys n key k here (subst (λ j. slice_get keys j ≡ Some k) same found)) (last (subst (λ j. IsBitSet mask j) same set))

pub with_key : (e : Extent) (keys : List Extent) (mask n : ℕ) (key : Extent) → slice_get keys n ≡ Some key → IsBitSet mask n → IsLeastOfFirst e keys mask n → IsLeastOfFirst (joined e key) keys mask (n + 1)
with_key e keys mask n key here set told = record {
  encloses = each_next e (joined e key) keys mask n key here (frames_covers_first e key) (λ s. frames_covers_second e key) told;
  least = λ f all. frames_least e key f (told.least f all) (all n key here set);
}

pub without_key : (e : Extent) (keys : List Extent) (mask n : ℕ) (key : Extent) → slice_get keys n ≡ Some key → (IsBitSet mask n → ⊥) → IsLeastOfFirst e keys mask n → IsLeastOfFirst e keys mask (n + 1)
without_key e keys mask n key here clear told = record {
  encloses = each_next e e keys mask n key here (frames_reflexive e) (λ s. absurd (clear s)) told;
  least = told.least;
}

pub of_all : (e : Extent) (keys : List Extent) (mask n : ℕ) → length keys ≤ n → IsLeastOfFirst e keys mask n → IsLeastOf e keys mask
of_all e keys mask n whole told = record {
  encloses = λ i key found set. told.encloses i key (let h = slice_get_within keys i key found in omega arith) found set;
  least = told.least;
}
