-- How each change of the slots keeps the counts and the chain of free slots.
use Rattle.std.proofs.Common.{◌≡◌, ◌≢◌, ◌⊎◌, ℕ, zero, suc, ◌+◌, ◌-◌, ◌<◌, ◌≤◌, Bool, false, List, map, length, get_or, set, Option, Some, None, is_some, IsSome, IsTrue, count_by, cond, eqb, slice_get, refl, sym, ap, subst, ◌∙◌, inl, inr, arith, length-set, add-one, true≢false}
use Rattle.std.proofs.lemmas.Bool.{cases_eq, cases_lt, ne_eqb, lt-leb}
use Rattle.std.proofs.lemmas.Bool.Decides.{nat_tests}
use Rattle.std.proofs.lemmas.List.{map-set, length-map, get_or-map, get_or-set_same, get_or-set_other, get_or_past}
use Rattle.std.proofs.lemmas.List.Elements.{All-set, All-get_or}
use Rattle.std.proofs.lemmas.List.Sums.{sum_by-set}
use Rattle.std.proofs.lemmas.Option.{slice_get_within, slice_get-get_or, slice_get_read, get_or_from_slice_get}
use Rattle.node_arena.specs.declared.handle.Handle.{Handle}
use Rattle.node_arena.specs.declared.slot.Slot.{Slot}
use Rattle.node_arena.specs.declared.slot.Slot.TheVariants.{Live, Free, WornOut}
use Rattle.node_arena.specs.Slots.{Slots, last_generation, held_under, is_taken, value_at, IsUsed}
use Rattle.node_arena.specs.Slot.{seen, is_free, IsInRange, IsLink, IsChain, IsSound}

module _ {T : Type 0} where
  -- what a caller sees of slots, apart from `places`
  abbrev seen_from : ℕ → List (Slot T) → Slots T
  seen_from first slots = record { first = first; slots = map seen slots; places = 0 }

  -- a link starts one chain at most
  pub IsChain-count_unique : (slots : List (Slot T)) (m n : ℕ) (next : Option ℕ) → IsChain slots m next → IsChain slots n next → m ≡ n
  IsChain-count_unique slots zero zero next p q = refl
  IsChain-count_unique slots zero (suc n) next p q = let named = q.3.named in absurd (cc)
  IsChain-count_unique slots (suc m) zero next p q = let named = p.3.named in absurd (cc)
  IsChain-count_unique slots (suc m) (suc n) next p q =
      let one = p.3 in
      let other = q.3 in
      let same_slot : q.0 ≡ p.0 = cc (one.named, other.named) in
      let same : q.2 ≡ p.2 = cc (one.found, other.found, same_slot) in
      ap suc (IsChain-count_unique slots m n p.2 p.4 (subst (IsChain slots n) same q.4))

  -- a write at a slot that is not on the chain keeps the chain
  pub IsChain-set : (slots : List (Slot T)) (i : ℕ) (e : Slot T) (n : ℕ) (next : Option ℕ) → ((m : ℕ) → m < n → IsChain slots (suc m) (Some i) → ⊥) → IsChain slots n next → IsChain (set slots i e) n next
  IsChain-set slots i e zero next off p = p
  IsChain-set slots i e (suc n) next off p =
      let link = p.3 in
      let apart : p.0 ≢ i = λ same. off n (omega arith) (p.0, p.1, p.2, record { named = ap Some (sym same); found = link.found }, p.4) in
      let within = slice_get_within slots p.0 _ link.found in
      let kept : slice_get (set slots i e) p.0 ≡ Some (Free p.1 p.2) =
      slice_get-get_or (set slots i e) p.0 e (omega (arith, length-set slots i e))
      ∙ ap Some (get_or-set_other slots i p.0 e e apart ∙ get_or_from_slice_get slots p.0 _ e link.found) in
      (p.0, p.1, p.2, record { named = link.named; found = kept }, IsChain-set slots i e n p.2 (λ m below. off m (omega arith)) p.4)

  -- a slot with a value is on no chain
  pub live_is_off_chain : (slots : List (Slot T)) (i generation : ℕ) (value : T) → slice_get slots i ≡ Some (Live generation value) → (m : ℕ) → IsChain slots (suc m) (Some i) → ⊥
  live_is_off_chain slots i generation value found m p =
      let link = p.3 in
      let same : i ≡ p.0 = cc (link.named) in
      absurd (cc (link.found, same))

  -- what a caller sees of a slot
  pub seen_at : (slots : List (Slot T)) (i : ℕ) (e : Slot T) (d : ℕ × Option T) → slice_get slots i ≡ Some e → get_or (map seen slots) i d ≡ seen e
  seen_at slots i e d found =
      get_or-map seen slots i e d (slice_get_within slots i e found) ∙ ap seen (get_or_from_slice_get slots i e e found)

  -- a count after a write
  pub count_seen-set : (p : ℕ × Option T → Bool) (slots : List (Slot T)) (i : ℕ) (old new : Slot T) → slice_get slots i ≡ Some old → count_by p (map seen (set slots i new)) + cond (p (seen old)) 1 0 ≡ count_by p (map seen slots) + cond (p (seen new)) 1 0
  count_seen-set p slots i old new found =
      let within = slice_get_within slots i old found in
      let counted = sum_by-set (λ slot. cond (p slot) 1 0) (map seen slots) i (seen new) (seen old) (omega (arith, length-map slots seen)) in
      rw (map-set seen slots i new, ← seen_at slots i old (seen old) found) counted

  pub in_range_at : (first : ℕ) (slots : List (Slot T)) (i : ℕ) (e : Slot T) (live free : ℕ) (next : Option ℕ) → IsSound first slots live free next → slice_get slots i ≡ Some e → IsInRange first e
  in_range_at first slots i e live free next sound found =
      subst (IsInRange first) (get_or_from_slice_get slots i e e found) (All-get_or (IsInRange first) slots i e (slice_get_within slots i e found) sound.in_range)

  -- each slot gave out its first generation
  pub first_given_out : (first : ℕ) (slots : List (Slot T)) (live free : ℕ) (next : Option ℕ) → IsSound first slots live free next → (slot : ℕ) → slot < length slots → first < (get_or (map seen slots) slot (first, None)).0
  first_given_out first slots live free next sound slot within =
      let found = slice_get-get_or slots slot WornOut within in
      subst (λ (p : ℕ × Option T). first < p.0) (sym (seen_at slots slot _ (first, None) found)) (by_slot (get_or slots slot WornOut) (in_range_at first slots slot _ live free next sound found))
    where
      by_slot : (e : Slot T) → IsInRange first e → first < (seen e).0
      by_slot (Live generation value) range = omega (arith, range.0)
      by_slot (Free generation after) range = range.0
      by_slot WornOut range = omega (arith, range)

  -- a read of the first free slot gives its link
  pub read_link : (first : ℕ) (slots : List (Slot T)) (live free : ℕ) (next : Option ℕ) (slot generation : ℕ) (after : Option ℕ) (e : Slot T) → IsSound first slots live free next → next ≡ Some slot → e ≡ get_or slots slot e → e ≡ Free generation after → IsLink slots next slot generation after
  read_link first slots live free next slot generation after e sound named read is =
      record { named = named; found = slice_get_read slots (length slots) slot e refl (within free sound.chained) read ∙ ap Some is }
    where
      within : (n : ℕ) → IsChain slots n next → slot < length slots
      within zero chained = absurd (cc)
      within (suc n) chained =
          let link = chained.3 in
          let same : chained.0 ≡ slot = cc (link.named, named) in
          omega (arith, slice_get_within slots chained.0 _ link.found)

  -- and it is free
  pub next_is_free : (first : ℕ) (slots : List (Slot T)) (live free : ℕ) (next : Option ℕ) (slot : ℕ) (e : Slot T) → IsSound first slots live free next → next ≡ Some slot → e ≡ get_or slots slot e → IsTrue (is_free e)
  next_is_free first slots live free next slot e sound named read = by_count free sound.chained
    where
      by_count : (n : ℕ) → IsChain slots n next → IsTrue (is_free e)
      by_count zero chained = absurd (cc)
      by_count (suc n) chained =
          let link = chained.3 in
          let same : chained.0 ≡ slot = cc (link.named, named) in
          let is : e ≡ Free chained.1 chained.2 = read ∙ get_or_from_slice_get slots slot _ e (ap (slice_get slots) (sym same) ∙ link.found) in
          rw is refl

  -- the first slot of the chain leaves it; the rest of the chain is shorter, so it does not lead
  -- back to that slot
  pub IsSound-fill : (first : ℕ) (slots : List (Slot T)) (live free : ℕ) (next : Option ℕ) (slot generation : ℕ) (after : Option ℕ) (value : T) → IsSound first slots live free next → IsLink slots next slot generation after → IsSound first (set slots slot (Live generation value)) (live + 1) (free - 1) after
  IsSound-fill first slots live free next slot generation after value sound link = by_count free sound.free_counted sound.chained
    where
      by_count : (n : ℕ) → count_by is_taken (map seen slots) + n ≡ length slots → IsChain slots n next → IsSound first (set slots slot (Live generation value)) (live + 1) (n - 1) after
      by_count zero counted chained = let named = link.named in absurd (cc)
      by_count (suc n) counted chained =
          let head = chained.3 in
          let same_slot : chained.0 ≡ slot = cc (head.named, link.named) in
          let same : chained.2 ≡ after = cc (head.found, link.found, same_slot) in
          let off : (m : ℕ) → m < n → IsChain slots (suc m) (Some slot) → ⊥ =
          λ m below p. omega (arith, IsChain-count_unique slots (suc m) (suc n) (Some slot) p (subst (IsChain slots (suc n)) link.named chained)) in
          let fits = in_range_at first slots slot _ live free next sound link.found in
          let was_free = lt-leb (suc last_generation) generation (omega (arith, fits.1)) in
          let taken = count_seen-set is_taken slots slot _ (Live generation value) link.found in
          let values = count_seen-set (λ s. is_some s.1) slots slot _ (Live generation value) link.found in
          let one_less : suc n - 1 ≡ n = omega arith in
          record {
            limit = omega (arith, length-set slots slot (Live generation value), sound.limit);
            in_range = All-set (IsInRange first) slots slot (Live generation value) (omega (arith, fits.0), fits.1) sound.in_range;
            live_counted = omega (arith, sound.live_counted, values);
            free_counted = omega (arith, length-set slots slot (Live generation value), rw was_free at taken);
            chained = rw one_less (IsChain-set slots slot (Live generation value) n after off (subst (IsChain slots n) same chained.4));
          }

  -- an emptied slot becomes the first of the chain
  pub IsSound-free : (first : ℕ) (slots : List (Slot T)) (live free : ℕ) (next : Option ℕ) (slot generation : ℕ) (value : T) → IsSound first slots live free next → slice_get slots slot ≡ Some (Live generation value) → generation + 1 ≤ last_generation → IsSound first (set slots slot (Free (generation + 1) next)) (live - 1) (free + 1) (Some slot)
  IsSound-free first slots live free next slot generation value sound found fits =
      let emptied = Free (generation + 1) next in
      let within = slice_get_within slots slot _ found in
      let range = in_range_at first slots slot _ live free next sound found in
      let is_free = lt-leb (suc last_generation) (generation + 1) (omega (arith, fits)) in
      let taken = count_seen-set is_taken slots slot _ emptied found in
      let values = count_seen-set (λ s. is_some s.1) slots slot _ emptied found in
      let written : slice_get (set slots slot emptied) slot ≡ Some emptied =
      slice_get-get_or _ slot emptied (omega (arith, length-set slots slot emptied)) ∙ ap Some (get_or-set_same slots slot emptied emptied within) in
      let rest = IsChain-set slots slot emptied free next (λ m _. live_is_off_chain slots slot generation value found m) sound.chained in
      record {
        limit = omega (arith, length-set slots slot emptied, sound.limit);
        in_range = All-set (IsInRange first) slots slot emptied (omega (arith, range.0), fits) sound.in_range;
        live_counted = omega (arith, sound.live_counted, values);
        free_counted = omega (arith, length-set slots slot emptied, sound.free_counted, rw is_free at taken);
        chained = rw (add-one free) (slot, generation + 1, next, record { named = refl; found = written }, rest);
      }

  -- a slot whose last value is removed stays off the chain
  pub IsSound-wear_out : (first : ℕ) (slots : List (Slot T)) (live free : ℕ) (next : Option ℕ) (slot generation : ℕ) (value : T) → IsSound first slots live free next → slice_get slots slot ≡ Some (Live generation value) → IsSound first (set slots slot WornOut) (live - 1) free next
  IsSound-wear_out first slots live free next slot generation value sound found =
      let range = in_range_at first slots slot _ live free next sound found in
      let taken = count_seen-set is_taken slots slot _ WornOut found in
      let values = count_seen-set (λ s. is_some s.1) slots slot _ WornOut found in
      record {
        limit = omega (arith, length-set slots slot WornOut, sound.limit);
        in_range = All-set (IsInRange first) slots slot WornOut (omega (arith, range.0, range.1)) sound.in_range;
        live_counted = omega (arith, sound.live_counted, values);
        free_counted = omega (arith, length-set slots slot WornOut, sound.free_counted, taken);
        chained = IsChain-set slots slot WornOut free next (λ m _. live_is_off_chain slots slot generation value found m) sound.chained;
      }

  -- a value may be written over
  pub IsSound-rewrite : (first : ℕ) (slots : List (Slot T)) (live free : ℕ) (next : Option ℕ) (slot generation : ℕ) (old new : T) → IsSound first slots live free next → slice_get slots slot ≡ Some (Live generation old) → IsSound first (set slots slot (Live generation new)) live free next
  IsSound-rewrite first slots live free next slot generation old new sound found =
      let rewritten = Live generation new in
      let range = in_range_at first slots slot _ live free next sound found in
      let taken = count_seen-set is_taken slots slot _ rewritten found in
      let values = count_seen-set (λ s. is_some s.1) slots slot _ rewritten found in
      record {
        limit = omega (arith, length-set slots slot rewritten, sound.limit);
        in_range = All-set (IsInRange first) slots slot rewritten range sound.in_range;
        live_counted = omega (arith, sound.live_counted, values);
        free_counted = omega (arith, length-set slots slot rewritten, sound.free_counted, taken);
        chained = IsChain-set slots slot rewritten free next (λ m _. live_is_off_chain slots slot generation old found m) sound.chained;
      }

  -- a handle that has a value names a slot with that value
  pub live_at : (first : ℕ) (slots : List (Slot T)) (handle : Handle) → IsSome (value_at (seen_from first slots) handle) → (value : T) × (slice_get slots handle.slot ≡ Some (Live handle.generation value))
  live_at first slots handle present = by_place (cases_lt handle.slot (length slots))
    where
      by_slot : (e : Slot T) → slice_get slots handle.slot ≡ Some e → IsSome (held_under (seen e) handle.generation) → (value : T) × (slice_get slots handle.slot ≡ Some (Live handle.generation value))
      by_slot (Free generation next) found some = absurd (grind (arith, nat_tests))
      by_slot WornOut found some = absurd (grind (arith, nat_tests))
      by_slot (Live generation value) found some = elim (cases_eq generation handle.generation) [
        | inl same ↦ (value, rw (← same) found)
        | inr differs ↦ let other : eqb (generation + 1) (handle.generation + 1) ≡ false = ne_eqb _ _ (λ e. differs (omega arith)) in absurd (true≢false (sym (rw other at some)))
      ]

      by_place : (handle.slot < length slots) ⊎ (length slots ≤ handle.slot) → (value : T) × (slice_get slots handle.slot ≡ Some (Live handle.generation value))
      by_place (inl within) =
          let found = slice_get-get_or slots handle.slot WornOut within in
          by_slot (get_or slots handle.slot WornOut) found (subst (λ (p : ℕ × Option T). IsSome (held_under p handle.generation)) (seen_at slots handle.slot _ (first, None) found) present)
      by_place (inr past) = absurd (grind (arith, nat_tests, get_or_past (map seen slots) handle.slot (first, None) (omega (arith, length-map slots seen))))

  -- and it is used
  pub used_from_value : (first : ℕ) (slots : List (Slot T)) (live free : ℕ) (next : Option ℕ) → IsSound first slots live free next → (handle : Handle) → IsSome (value_at (seen_from first slots) handle) → IsUsed (seen_from first slots) handle
  used_from_value first slots live free next sound handle present =
      let found = live_at first slots handle present in
      let range = in_range_at first slots handle.slot _ live free next sound found.1 in
      let last : (get_or (map seen slots) handle.slot (first, None)).0 ≡ handle.generation + 1 = ap (λ slot. slot.0) (seen_at slots handle.slot _ (first, None) found.1) in
      (range.0, omega arith)
