-- The list of the handles that have a value, which shows that `len` is the size of the map.
use Rattle.std.proofs.Common.{◌≡◌, ◌≢◌, ◌⊎◌, ℕ, zero, suc, ◌+◌, ◌<◌, ◌≤◌, List, [], ◌∷◌, map, length, get_or, Option, Some, None, is_some, IsSome, count_by, cond, Contains, refl, ap, inl, inr, arith, add-one, zero-add}
use Rattle.std.specs.List.{All, AllPairs}
use Rattle.std.proofs.lemmas.Bool.{cases_eq}
use Rattle.std.proofs.lemmas.List.Elements.{All-nil, All-cons, All-weaker}
use Rattle.std.proofs.lemmas.List.Sums.{sum_by-cons}
use Rattle.node_arena.specs.declared.handle.Handle.{Handle}
use Rattle.node_arena.specs.declared.slot.Slot.{Slot}
use Rattle.node_arena.specs.declared.slot.Slot.TheVariants.{Live, Free, WornOut}
use Rattle.node_arena.specs.Slots.{Slots, last_generation, held_under, value_count, IsSize}
use Rattle.node_arena.specs.Slot.{seen}
use Rattle.node_arena.proofs.ArenaLaws.{same_handle, held_under-last, held_under-other, held_under-nothing, some_is_not_none}

Contains-cons : {X : Type 0} (head x : X) (rest : List X) → Contains rest x → Contains (head ∷ rest) x
Contains-cons head x rest p = (suc p.0, omega (arith, p.1), p.2)

Contains-cons_cases : {X : Type 0} (head x : X) (rest : List X) → Contains (head ∷ rest) x → (head ≡ x) ⊎ Contains rest x
Contains-cons_cases {X} head x rest p = by_index p.0 p.1 p.2
  where
    by_index : (k : ℕ) → k < suc (length rest) → get_or (head ∷ rest) k x ≡ x → (head ≡ x) ⊎ Contains rest x
    by_index zero within found = inl found
    by_index (suc k) within found = inr (k, omega arith, found)

AllPairs-cons : {X : Type 0} (R : X → X → Type 0) (x : X) (xs : List X) → All (R x) xs → AllPairs R xs → AllPairs R (x ∷ xs)
AllPairs-cons R x xs first rest zero zero d below within = absurd (omega arith)
AllPairs-cons R x xs first rest zero (suc j) d below within = first j d (omega arith)
AllPairs-cons R x xs first rest (suc i) zero d below within = absurd (omega arith)
AllPairs-cons R x xs first rest (suc i) (suc j) d below within = rest i j d (omega arith) (omega arith)

later : (slot : ℕ) (handles : List Handle) → All (λ (handle : Handle). slot + 1 ≤ handle.slot) handles → All (λ (handle : Handle). slot ≤ handle.slot) handles
later slot handles after = All-weaker (λ (handle : Handle). slot + 1 ≤ handle.slot) (λ (handle : Handle). slot ≤ handle.slot) (λ handle above. omega arith) handles after

apart : (one : Handle) (handles : List Handle) → All (λ (handle : Handle). one.slot + 1 ≤ handle.slot) handles → All (λ other. one ≢ other) handles
apart one handles after = All-weaker (λ (handle : Handle). one.slot + 1 ≤ handle.slot) (λ other. one ≢ other) (λ handle above e. omega (arith, ap (λ (h : Handle). h.slot) e)) handles after

no_value : (T : Type 0) (next generation : ℕ) → IsSome (held_under {T = T} (next, None) generation) → ⊥
no_value T next generation some = some_is_not_none _ some (held_under-nothing next generation)

module _ {T : Type 0} where
  -- the handles with a value in these slots, the first of which has this number
  abbrev handles_from : ℕ → List (ℕ × Option T) → List Handle
  handles_from slot [] = []
  handles_from slot ((next, None) ∷ rest) = handles_from (slot + 1) rest
  handles_from slot ((zero, Some value) ∷ rest) = handles_from (slot + 1) rest
  handles_from slot ((suc generation, Some value) ∷ rest) =
      record { slot = slot; generation = generation } ∷ handles_from (slot + 1) rest

  length-handles_from : (slot : ℕ) (slots : List (Slot T)) → length (handles_from slot (map seen slots)) ≡ count_by (λ s. is_some s.1) (map seen slots)
  length-handles_from slot [] = refl
  length-handles_from slot (Live generation value ∷ rest) = rw (add-one generation) (omega (arith, length-handles_from (slot + 1) rest, sum_by-cons (λ (s : ℕ × Option T). cond (is_some s.1) 1 0) (suc generation, Some value) (map seen rest)))
  length-handles_from slot (Free generation after ∷ rest) = omega (arith, length-handles_from (slot + 1) rest, sum_by-cons (λ (s : ℕ × Option T). cond (is_some s.1) 1 0) (generation, None) (map seen rest))
  length-handles_from slot (WornOut ∷ rest) = omega (arith, length-handles_from (slot + 1) rest, sum_by-cons (λ (s : ℕ × Option T). cond (is_some s.1) 1 0) (last_generation + 1, None) (map seen rest))

  from_slot : (slot : ℕ) (slots : List (ℕ × Option T)) → All (λ (handle : Handle). slot ≤ handle.slot) (handles_from slot slots)
  from_slot slot [] = All-nil (λ (handle : Handle). slot ≤ handle.slot)
  from_slot slot ((next, None) ∷ rest) = later slot (handles_from (slot + 1) rest) (from_slot (slot + 1) rest)
  from_slot slot ((zero, Some value) ∷ rest) = later slot (handles_from (slot + 1) rest) (from_slot (slot + 1) rest)
  from_slot slot ((suc generation, Some value) ∷ rest) =
      All-cons (λ (handle : Handle). slot ≤ handle.slot) _ (handles_from (slot + 1) rest) (omega arith) (later slot (handles_from (slot + 1) rest) (from_slot (slot + 1) rest))

  distinct_from : (slot : ℕ) (slots : List (ℕ × Option T)) → AllPairs (λ (one other : Handle). one ≢ other) (handles_from slot slots)
  distinct_from slot [] = λ i j d below within. absurd (omega arith)
  distinct_from slot ((next, None) ∷ rest) = distinct_from (slot + 1) rest
  distinct_from slot ((zero, Some value) ∷ rest) = distinct_from (slot + 1) rest
  distinct_from slot ((suc generation, Some value) ∷ rest) =
      let one : Handle = record { slot = slot; generation = generation } in
      AllPairs-cons (λ (one other : Handle). one ≢ other) one (handles_from (slot + 1) rest) (apart one (handles_from (slot + 1) rest) (from_slot (slot + 1) rest)) (distinct_from (slot + 1) rest)

  listed_from_value : (first slot : ℕ) (slots : List (ℕ × Option T)) (at generation : ℕ) → IsSome (held_under (get_or slots at (first, None)) generation) → Contains (handles_from slot slots) (record { slot = slot + at; generation = generation })
  listed_from_value first slot [] at generation some = absurd (no_value T first generation some)
  listed_from_value first slot ((next, None) ∷ rest) zero generation some = absurd (no_value T next generation some)
  listed_from_value first slot ((zero, Some value) ∷ rest) zero generation some = absurd (some_is_not_none _ some (held_under-other (zero, Some value) generation (λ e. omega arith)))
  listed_from_value first slot ((suc held, Some value) ∷ rest) zero generation some = elim (cases_eq held generation) [
    | inl same ↦ (0, omega arith, same_handle (record { slot = slot + zero; generation = generation }) (record { slot = slot; generation = held }) (omega arith) same)
    | inr differs ↦ absurd (some_is_not_none _ some (held_under-other (suc held, Some value) generation (λ e. differs (omega arith))))
  ]
  listed_from_value first slot ((next, None) ∷ rest) (suc at) generation some =
      let shift : slot + suc at ≡ slot + 1 + at = omega arith in
      rw shift (listed_from_value first (slot + 1) rest at generation some)
  listed_from_value first slot ((zero, Some value) ∷ rest) (suc at) generation some =
      let shift : slot + suc at ≡ slot + 1 + at = omega arith in
      rw shift (listed_from_value first (slot + 1) rest at generation some)
  listed_from_value first slot ((suc held, Some value) ∷ rest) (suc at) generation some =
      let shift : slot + suc at ≡ slot + 1 + at = omega arith in
      rw shift (Contains-cons _ _ (handles_from (slot + 1) rest) (listed_from_value first (slot + 1) rest at generation some))

  value_from_listed : (first slot : ℕ) (slots : List (ℕ × Option T)) (handle : Handle) → Contains (handles_from slot slots) handle → (at : ℕ) × (handle.slot ≡ slot + at) × IsSome (held_under (get_or slots at (first, None)) handle.generation)
  value_from_listed first slot [] handle listed = absurd (omega (arith, listed.1))
  value_from_listed first slot ((next, None) ∷ rest) handle listed =
      let found = value_from_listed first (slot + 1) rest handle listed in
      (suc found.0, omega (arith, found.1), found.2)
  value_from_listed first slot ((zero, Some value) ∷ rest) handle listed =
      let found = value_from_listed first (slot + 1) rest handle listed in
      (suc found.0, omega (arith, found.1), found.2)
  value_from_listed first slot ((suc held, Some value) ∷ rest) handle listed =
      elim (Contains-cons_cases _ handle (handles_from (slot + 1) rest) listed) [
        | inl here ↦
            let same : held ≡ handle.generation = ap (λ (h : Handle). h.generation) here in
            let reads = held_under-last (suc held, Some value) handle.generation (omega arith) in
            (0, omega (arith, ap (λ (h : Handle). h.slot) here), rw reads refl)
        | inr there ↦
            let found = value_from_listed first (slot + 1) rest handle there in
            (suc found.0, omega (arith, found.1), found.2)
      ]

  pub IsSize-value_count : (first places : ℕ) (slots : List (Slot T)) → let s : Slots T = record { first = first; slots = map seen slots; places = places } in IsSize s (value_count s)
  IsSize-value_count first places slots =
      record {
        handles = handles_from 0 (map seen slots);
        counted = length-handles_from 0 slots;
        distinct = distinct_from 0 (map seen slots);
        listed = λ handle. (
          λ listed. let found = value_from_listed first 0 (map seen slots) handle listed in rw (found.1, zero-add found.0) found.2,
          λ some. rw (zero-add handle.slot) at (listed_from_value first 0 (map seen slots) handle.slot handle.generation some),
        );
      }
