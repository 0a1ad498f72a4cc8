-- What a contract sees of a block: the handle that frees it, and what its places hold.
use Rattle.std.specs.Prelude.{◌≡◌, ℕ, ◌<◌, ◌≤◌, List, Option, None, IsSome, refl, slice_set, slice_index_or}
use Rattle.std.specs.Coded.{Coded, code_by, coded×, coded_list, coded_option}

pub record Held (S A : Type 0) : Type 0 where
  pub heap : A
  pub items : List (Option S)

abbrev pub held_code : {S A : Type 0} → Coded S → Coded A → Coded (Held S A)
held_code {S} {A} values heaps =
    code_by
    (A × List (Option S))
    (coded× heaps (coded_list (coded_option values)))
    (λ block. (block.heap, block.items))
    (λ pair. record { heap = pair.0; items = pair.1 })
    (λ _. refl)

-- the block with this in the place
abbrev pub with_item : {S A : Type 0} → Held S A → ℕ → Option S → Held S A
with_item block place item =
    record { heap = block.heap; items = slice_set block.items place item }

module _ {X : Type 0} where
  -- the first `count` places hold values
  abbrev pub IsFull : List (Option X) → ℕ → Type 0
  IsFull items count = (place : ℕ) → place < count → IsSome (slice_index_or items place None)

  -- from this place on, no place holds a value
  abbrev pub IsFreeFrom : List (Option X) → ℕ → Type 0
  IsFreeFrom items from = (place : ℕ) → from ≤ place → slice_index_or items place None ≡ None

  -- each place holds what it held
  abbrev pub SameItems : List (Option X) → List (Option X) → Type 0
  SameItems old new = (place : ℕ) → slice_index_or new place None ≡ slice_index_or old place None
