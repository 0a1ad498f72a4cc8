-- What a contract sees of an arena: a map from handles to values, the handles that were used, and
-- counts.
use Rattle.std.specs.Prelude.{◌≡◌, ◌≢◌, ◌↔◌, ℕ, Bool, ◌+◌, ◌<◌, ◌≤◌, ◌==◌, ◌||◌, nat_lt, List, [], length, AllPairs, Contains, IsSome, Option, Some, None, is_some, count_by, slice_index_or, slice_set, max, refl, if◌then◌else◌}
use Rattle.std.specs.Coded.{Coded, code_by, coded×, coded_ℕ, coded_list, coded_option}
use Rattle.node_arena.specs.declared.handle.Handle.{Handle}

-- `first` is the generation at which a slot starts. `slots` has each slot that was ever given out:
-- the generation that it gives out next, and its value. `places` is for how many slots there is
-- memory.
pub record Slots (T : Type 0) : Type 0 where
  pub first : ℕ
  pub slots : List (ℕ × Option T)
  pub places : ℕ

-- the slots are stored as the tuple of the fields
abbrev pub slots_code : {T : Type 0} → Coded T → Coded (Slots T)
slots_code {T} code =
    code_by
    (ℕ × (List (ℕ × Option T) × ℕ))
    (coded× coded_ℕ (coded× (coded_list (coded× coded_ℕ (coded_option code))) coded_ℕ))
    (λ s. (s.first, (s.slots, s.places)))
    (λ p. record { first = p.0; slots = p.1.0; places = p.1.1 })
    (λ _. refl)

-- the highest generation
abbrev pub last_generation : ℕ
last_generation = 4294967295

module _ {T : Type 0} where
  -- a slot's next generation and its value. A slot that was never given out is at its start
  abbrev pub slot_at : Slots T → ℕ → ℕ × Option T
  slot_at s slot = slice_index_or s.slots slot (s.first, None)

  -- the generation that a slot gives out next
  abbrev pub next_generation : Slots T → ℕ → ℕ
  next_generation s slot = (slot_at s slot).0

  -- what a slot holds under a generation: its value, if that is the last generation that it gave
  -- out
  abbrev pub held_under : ℕ × Option T → ℕ → Option T
  held_under slot generation = if slot.0 == generation + 1 then slot.1 else None

  -- the map: the value under a handle
  abbrev pub value_at : Slots T → Handle → Option T
  value_at s handle = held_under (slot_at s handle.slot) handle.generation

  -- the used handles: those that were given out
  abbrev pub IsUsed : Slots T → Handle → Type 0
  IsUsed s handle = (s.first ≤ handle.generation)
      × (handle.generation < next_generation s handle.slot)

  -- how many values there are
  abbrev pub value_count : Slots T → ℕ
  value_count s = count_by (λ slot. is_some slot.1) s.slots

  -- the size of the map: a list of `size` handles has each handle with a value once, and no other
  pub record IsSize (s : Slots T) (size : ℕ) : Type 0 where
    pub handles : List Handle
    pub counted : length handles ≡ size
    pub distinct : AllPairs (λ one other. one ≢ other) handles
    pub listed : (handle : Handle) → Contains handles handle ↔ IsSome (value_at s handle)

  -- how many slots were given out at least once
  abbrev pub slot_count : Slots T → ℕ
  slot_count s = length s.slots

  -- the slot holds a value, or is worn out: its last generation was given out
  abbrev pub is_taken : ℕ × Option T → Bool
  is_taken slot = is_some slot.1 || nat_lt last_generation slot.0

  -- how many slots hold a value or are worn out. The others are free
  abbrev pub taken_count : Slots T → ℕ
  taken_count s = count_by is_taken s.slots

  -- `more` more values find a slot without more memory, and before `MAX_SLOTS` are taken
  abbrev pub HasRoomFor : Slots T → ℕ → Type 0
  HasRoomFor s more = taken_count s + more ≤ s.places

  -- the same values, used handles and counts; only `places` may differ
  abbrev pub SameButRoom : Slots T → Slots T → Type 0
  SameButRoom old new = new ≡ record old { places = new.places }

  -- nothing was given out yet, and each slot starts at this generation
  abbrev pub empty_from : ℕ → Slots T
  empty_from generation = record { first = generation; slots = []; places = 0 }

  -- the arena with this value or none in the handle's slot, whose last given handle is this one
  abbrev pub with_slot : Slots T → Handle → Option T → Slots T
  with_slot s handle held =
      record s { slots = slice_set s.slots handle.slot (handle.generation + 1, held) }

  -- the arena after a write of this value through `get_mut(handle)`
  abbrev pub with_value : Slots T → Handle → T → Slots T
  with_value s handle value = with_slot s handle (Some value)

  -- no handle has a value, and none was used
  pub record IsEmpty (s : Slots T) : Type 0 where
    pub no_values : (handle : Handle) → value_at s handle ≡ None
    pub none_used : (handle : Handle) → IsUsed s handle → ⊥

  -- a new handle has the value: it was not used and had no value, and nothing else changes
  pub record IsGiven (old new : Slots T) (handle : Handle) (value : T) : Type 0 where
    pub was_unused : IsUsed old handle → ⊥
    pub had_no_value : value_at old handle ≡ None
    pub is_used : IsUsed new handle
    pub has_value : value_at new handle ≡ Some value
    pub other_values : (other : Handle) → other ≢ handle → value_at new other ≡ value_at old other
    pub stay_used : (other : Handle) → IsUsed old other → IsUsed new other
    pub no_others : (other : Handle) → other ≢ handle → IsUsed new other → IsUsed old other
    pub same_first : new.first ≡ old.first

  -- the counts with one more value, under this handle: a used slot gives out its next generation,
  -- and a new slot is the first that was never given out
  pub record CountsGiven (old new : Slots T) (handle : Handle) : Type 0 where
    pub generation : handle.generation ≡ next_generation old handle.slot
    pub values : value_count new ≡ value_count old + 1
    pub taken : taken_count new ≡ taken_count old + 1
    pub slots : slot_count new ≡ max (slot_count old) (handle.slot + 1)
    pub next_slot : handle.slot ≤ slot_count old

  -- this handle has `held`, each other handle reads as before, and the same handles are used
  pub record IsChangedAt (old new : Slots T) (handle : Handle) (held : Option T) : Type 0 where
    pub here : value_at new handle ≡ held
    pub other_values : (other : Handle) → other ≢ handle → value_at new other ≡ value_at old other
    pub same_used : (other : Handle) → IsUsed new other ↔ IsUsed old other
    pub same_first : new.first ≡ old.first

  -- no count changes
  pub record SameCounts (old new : Slots T) : Type 0 where
    pub values : value_count new ≡ value_count old
    pub taken : taken_count new ≡ taken_count old
    pub slots : slot_count new ≡ slot_count old
