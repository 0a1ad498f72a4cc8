-- How an arena lays out its slots. No public clause cites this module.
use Rattle.std.specs.Prelude.{◌≡◌, ℕ, Bool, true, false, zero, suc, ◌+◌, ◌<◌, ◌≤◌, List, map, length, Option, Some, None, is_some, count_by, slice_get, All}
use Rattle.node_arena.specs.Slots.{last_generation, is_taken}
use Rattle.node_arena.specs.declared.TheConstants.{MAX_SLOTS}
use Rattle.node_arena.specs.declared.slot.Slot.{Slot}
use Rattle.node_arena.specs.declared.slot.Slot.TheVariants.{Live, Free, WornOut}

module _ {T : Type 0} where
  -- the value of a slot, if it has one
  abbrev pub value_of : Slot T → Option T
  value_of (Live _ value) = Some value
  value_of (Free _ _) = None
  value_of WornOut = None

  abbrev pub is_free : Slot T → Bool
  is_free (Live _ _) = false
  is_free (Free _ _) = true
  is_free WornOut = false

  -- the slot with another value in place of its own
  abbrev pub rewritten : Slot T → T → Slot T
  rewritten (Live generation _) value = Live generation value
  rewritten (Free generation next) _ = Free generation next
  rewritten WornOut _ = WornOut

  -- the generation that the slot gives out next, and its value
  abbrev pub seen : Slot T → ℕ × Option T
  seen (Live generation value) = (generation + 1, Some value)
  seen (Free generation _) = (generation, None)
  seen WornOut = (last_generation + 1, None)

  -- the slot was given out, at `first` or later, and its generation fits 32 bits
  abbrev pub IsInRange : ℕ → Slot T → Type 0
  IsInRange first (Live generation _) = (first ≤ generation) × (generation ≤ last_generation)
  IsInRange first (Free generation _) = (first < generation) × (generation ≤ last_generation)
  IsInRange first WornOut = first ≤ last_generation

  -- the link names this free slot, whose own link is `after`
  pub record IsLink (slots : List (Slot T)) (next : Option ℕ) (slot generation : ℕ)
      (after : Option ℕ) : Type 0 where
    pub named : next ≡ Some slot
    pub found : slice_get slots slot ≡ Some (Free generation after)

  -- from this link on, a chain of `count` free slots: each names the next, and the last names none
  abbrev pub IsChain : List (Slot T) → ℕ → Option ℕ → Type 0
  IsChain slots zero next = next ≡ None
  IsChain slots (suc count) next = (slot generation : ℕ) × (after : Option ℕ)
      × IsLink slots next slot generation after × IsChain slots count after

  -- `live` counts the values, and the chain from `next` has the `free` slots that are not taken
  pub record IsSound (first : ℕ) (slots : List (Slot T)) (live free : ℕ) (next : Option ℕ) : Type 0
    where
      pub limit : length slots ≤ MAX_SLOTS
      pub in_range : All (IsInRange first) slots
      pub live_counted : live ≡ count_by (λ slot. is_some slot.1) (map seen slots)
      pub free_counted : count_by is_taken (map seen slots) + free ≡ length slots
      pub chained : IsChain slots free next
