-- The laws of the map that an arena is, for this crate and its callers.
use Rattle.std.proofs.Common.{◌≡◌, ◌≢◌, ◌⊎◌, ℕ, ◌+◌, ◌<◌, ◌≤◌, Bool, true, false, Option, Some, None, IsSome, cond, eqb, refl, sym, ap, subst, ◌∙◌, inl, inr, arith, true≢false}
use Rattle.std.proofs.lemmas.Bool.{cases_eq, cases_lt, cases_order, eq-eqb, ne_eqb}
use Rattle.std.proofs.lemmas.List.{get_or-set_same, get_or-set_other, get_or_past}
use Rattle.node_arena.specs.declared.handle.Handle.{Handle}
use Rattle.node_arena.specs.Slots.{Slots, slot_at, next_generation, held_under, value_at, slot_count, with_slot, with_value, IsGiven, IsChangedAt}

pub same_handle : (one other : Handle) → other.slot ≡ one.slot → other.generation ≡ one.generation → other ≡ one
same_handle one other slot generation =
    let make : ℕ → ℕ → Handle = λ a b. record { slot = a; generation = b } in
    ap (λ a. make a other.generation) slot ∙ ap (make one.slot) generation

-- two handles differ in their slot, or only in their generation
pub handles_apart : (one other : Handle) → other ≢ one → (other.slot ≢ one.slot) ⊎ ((other.slot ≡ one.slot) × (other.generation ≢ one.generation))
handles_apart one other differs = elim (cases_eq other.slot one.slot) [
  | inl same ↦ inr (same, λ e. differs (same_handle one other same e))
  | inr apart ↦ inl apart
]

-- two handles are the same, or differ
pub handle_cases : (one other : Handle) → (one ≡ other) ⊎ (one ≢ other)
handle_cases one other = elim (cases_eq one.slot other.slot) [
  | inl slot ↦ elim (cases_eq one.generation other.generation) [
    | inl generation ↦ inl (same_handle other one slot generation)
    | inr differs ↦ inr (λ e. differs (ap (λ (h : Handle). h.generation) e))
  ]
  | inr differs ↦ inr (λ e. differs (ap (λ (h : Handle). h.slot) e))
]

module _ {T : Type 0} where
  pub held_under-last : (slot : ℕ × Option T) (generation : ℕ) → slot.0 ≡ generation + 1 → held_under slot generation ≡ slot.1
  held_under-last slot generation last = rw (eq-eqb slot.0 (generation + 1) last) refl

  pub held_under-other : (slot : ℕ × Option T) (generation : ℕ) → slot.0 ≢ generation + 1 → held_under slot generation ≡ None
  held_under-other slot generation other = rw (ne_eqb slot.0 (generation + 1) other) refl

  pub held_under-nothing : (next generation : ℕ) → held_under {T = T} (next, None) generation ≡ None
  held_under-nothing next generation = by_test (eqb next (generation + 1))
    where
      by_test : (b : Bool) → ◌≡◌ {A = Option T} (cond b None None) None
      by_test true = refl
      by_test false = refl

  -- a handle with a value is the last that its slot gave out, and reads what the slot holds
  pub value_cases : (s : Slots T) (handle : Handle) → ((next_generation s handle.slot ≡ handle.generation + 1) × (value_at s handle ≡ (slot_at s handle.slot).1)) ⊎ (value_at s handle ≡ None)
  value_cases s handle = elim (cases_eq (next_generation s handle.slot) (handle.generation + 1)) [
    | inl last ↦ inl (last, held_under-last (slot_at s handle.slot) handle.generation last)
    | inr other ↦ inr (held_under-other (slot_at s handle.slot) handle.generation other)
  ]

  pub some_is_not_none : (o : Option T) → IsSome o → o ≡ None → ⊥
  some_is_not_none o some none = true≢false (sym (subst IsSome none some))

  pub last_from_value : (s : Slots T) (handle : Handle) → IsSome (value_at s handle) → (next_generation s handle.slot ≡ handle.generation + 1) × (value_at s handle ≡ (slot_at s handle.slot).1)
  last_from_value s handle present = elim (value_cases s handle) [
    | inl found ↦ found
    | inr none ↦ absurd (some_is_not_none _ present none)
  ]

  pub within_from_value : (s : Slots T) (handle : Handle) → IsSome (value_at s handle) → handle.slot < slot_count s
  within_from_value s handle present = elim (cases_lt handle.slot (slot_count s)) [
    | inl within ↦ within
    | inr past ↦
        let nothing = held_under-nothing s.first handle.generation in
        absurd (some_is_not_none _ present (ap (λ slot. held_under slot handle.generation) (get_or_past s.slots handle.slot (s.first, None) past) ∙ nothing))
  ]

  -- a slot has one value at most
  pub one_value_a_slot : (s : Slots T) (one other : Handle) → IsSome (value_at s one) → IsSome (value_at s other) → other.slot ≡ one.slot → other ≡ one
  one_value_a_slot s one other present also same =
      let here = last_from_value s one present in
      let there = last_from_value s other also in
      let last : next_generation s other.slot ≡ next_generation s one.slot = ap (next_generation s) same in
      same_handle one other same (omega (arith, here.0, there.0, last))

  -- how a new handle, the next of its slot, changes the map
  pub IsGiven-from_slot : (old new : Slots T) (handle : Handle) (value : T) → slot_at old handle.slot ≡ (handle.generation, None) → slot_at new handle.slot ≡ (handle.generation + 1, Some value) → ((slot : ℕ) → slot ≢ handle.slot → slot_at new slot ≡ slot_at old slot) → new.first ≡ old.first → old.first ≤ handle.generation → IsGiven old new handle value
  IsGiven-from_slot old new handle value before after others first begins =
      let was : next_generation old handle.slot ≡ handle.generation = ap (λ slot. slot.0) before in
      let is : next_generation new handle.slot ≡ handle.generation + 1 = ap (λ slot. slot.0) after in
      record {
        was_unused = λ used. omega (arith, used.1);
        had_no_value = held_under-other (slot_at old handle.slot) handle.generation (λ e. omega arith);
        is_used = (omega arith, omega arith);
        has_value = held_under-last (slot_at new handle.slot) handle.generation is ∙ ap (λ slot. slot.1) after;
        other_values = λ other differs. elim (handles_apart handle other differs) [
          | inl apart ↦ ap (λ slot. held_under slot other.generation) (others other.slot apart)
          | inr later ↦
              let now : next_generation new other.slot ≡ handle.generation + 1 = ap (next_generation new) later.0 ∙ is in
              let empty : slot_at old other.slot ≡ (handle.generation, None) = ap (slot_at old) later.0 ∙ before in
              held_under-other (slot_at new other.slot) other.generation (λ e. later.1 (omega arith)) ∙ sym (ap (λ slot. held_under slot other.generation) empty ∙ held_under-nothing handle.generation other.generation)
        ];
        stay_used = λ other used. elim (cases_eq other.slot handle.slot) [
          | inl same ↦
              let was_there = ap (next_generation old) same in
              let is_there = ap (next_generation new) same in
              (omega (arith, used.0), omega (arith, used.1))
          | inr apart ↦ let same = ap (λ slot. slot.0) (others other.slot apart) in (omega (arith, used.0), omega (arith, used.1))
        ];
        same_first = first;
        no_others = λ other differs used. elim (handles_apart handle other differs) [
          | inl apart ↦ let same = ap (λ slot. slot.0) (others other.slot apart) in (omega (arith, used.0), omega (arith, used.1))
          | inr later ↦
              let was_there = ap (next_generation old) later.0 in
              let is_there = ap (next_generation new) later.0 in
              let below : other.generation ≤ handle.generation = omega (arith, used.1) in (
                omega (arith, used.0),
                elim (cases_order other.generation handle.generation) [
                  | inl same ↦ absurd (later.1 same)
                  | inr (inl less) ↦ omega arith
                  | inr (inr more) ↦ omega arith
                ],
              )
        ];
      }

  with_slot-here : (s : Slots T) (handle : Handle) (held : Option T) → handle.slot < slot_count s → slot_at (with_slot s handle held) handle.slot ≡ (handle.generation + 1, held)
  with_slot-here s handle held within = get_or-set_same s.slots handle.slot (handle.generation + 1, held) (s.first, None) within

  with_slot-other : (s : Slots T) (handle : Handle) (held : Option T) (slot : ℕ) → slot ≢ handle.slot → slot_at (with_slot s handle held) slot ≡ slot_at s slot
  with_slot-other s handle held slot apart = get_or-set_other s.slots handle.slot slot (handle.generation + 1, held) (s.first, None) apart

  -- a free slot is filled
  pub IsGiven-with_value : (s : Slots T) (handle : Handle) (value : T) → slot_at s handle.slot ≡ (handle.generation, None) → handle.slot < slot_count s → s.first ≤ handle.generation → IsGiven s (with_value s handle value) handle value
  IsGiven-with_value s handle value before within begins =
      IsGiven-from_slot s (with_value s handle value) handle value before (with_slot-here s handle (Some value) within) (with_slot-other s handle (Some value)) refl begins

  -- the slot of a handle that has a value is rewritten or emptied
  pub IsChangedAt-with_slot : (s : Slots T) (handle : Handle) (held : Option T) → IsSome (value_at s handle) → IsChangedAt s (with_slot s handle held) handle held
  IsChangedAt-with_slot s handle held present =
      let new = with_slot s handle held in
      let last = last_from_value s handle present in
      let after = with_slot-here s handle held (within_from_value s handle present) in
      let is : next_generation new handle.slot ≡ handle.generation + 1 = ap (λ slot. slot.0) after in
      let same_next : (slot : ℕ) → next_generation new slot ≡ next_generation s slot = λ slot. elim (cases_eq slot handle.slot) [
        | inl same ↦ ap (next_generation new) same ∙ is ∙ sym (ap (next_generation s) same ∙ last.0)
        | inr apart ↦ ap (λ slot. slot.0) (with_slot-other s handle held slot apart)
      ] in
      record {
        here = held_under-last (slot_at new handle.slot) handle.generation is ∙ ap (λ slot. slot.1) after;
        other_values = λ other differs. elim (handles_apart handle other differs) [
          | inl apart ↦ ap (λ slot. held_under slot other.generation) (with_slot-other s handle held other.slot apart)
          | inr later ↦
              let was : next_generation s other.slot ≡ handle.generation + 1 = ap (next_generation s) later.0 ∙ last.0 in
              held_under-other (slot_at new other.slot) other.generation (λ e. later.1 (omega (arith, same_next other.slot))) ∙ sym (held_under-other (slot_at s other.slot) other.generation (λ e. later.1 (omega arith)))
        ];
        same_first = refl;
        same_used = λ other. (
          λ used. (used.0, omega (arith, used.1, same_next other.slot)),
          λ used. (used.0, omega (arith, used.1, same_next other.slot)),
        );
      }

  -- what is read after a write through `get_mut`
  pub value_with_here : (s : Slots T) (handle : Handle) (value : T) → IsSome (value_at s handle) → value_at (with_value s handle value) handle ≡ Some value
  value_with_here s handle value present = (IsChangedAt-with_slot s handle (Some value) present).here

  pub value_with_other : (s : Slots T) (handle other : Handle) (value : T) → IsSome (value_at s handle) → other ≢ handle → value_at (with_value s handle value) other ≡ value_at s other
  value_with_other s handle other value present differs = (IsChangedAt-with_slot s handle (Some value) present).other_values other differs
