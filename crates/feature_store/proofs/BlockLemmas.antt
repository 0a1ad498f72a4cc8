-- Entries in blocks: one block among the others, and the position of an id.
use Rattle.std.proofs.Common.{◌≡◌, ◌≢◌, ℕ, suc, ◌+◌, ◌-◌, ◌<◌, ◌≤◌, List, [], ◌∷◌, ◌++◌, length, set, take, drop, get_or, refl, inl, inr, sym, ap, ◌∙◌, arith}
use Rattle.std.specs.List.{flat_map, insert, remove}
use Rattle.std.proofs.lemmas.List.{append-nil, append_assoc, drop-set-lt, drop_all, drop_at, drop_more, get_or-map, get_or-set_other, get_or-set_same, get_or_default, length-append, length-drop, length-map, length-set, length-take-le, nil_from_length, set-append_left, set-append_right, set_split, take-append-drop, take-append-le, take-set, take-take, take_more, take_more_set}
use Rattle.std.proofs.lemmas.List.Concat.{flat_map-append, get_or-flat_map}
use Rattle.std.proofs.lemmas.List.Edits.{get_or-insert_above, get_or-insert_at, get_or-insert_below, get_or-remove_above, get_or-remove_below, insert-append_left, insert-append_right, length-insert, length-remove, remove-append_left, remove-append_right}
use Rattle.std.proofs.lemmas.Bool.{cases_lt, cases_eq}
use Rattle.arrayvec.specs.ArrayVec.{ArrayVec}
use Rattle.feature_store.specs.declared.blocks.Entry.{Entry}
use Rattle.feature_store.specs.declared.blocks.Position.{Position}
use Rattle.feature_store.specs.Places.{AreRising, IsAt, IsGapFor}
use Rattle.feature_store.specs.Blocks.{AreFilled, AreFilledBut, IsWithin, block_at, entries_of, entry_at, flat_index, halved, ids_in, joined, last_of, no_entry, with_entry, with_place, without_entry}
use Rattle.feature_store.proofs.PlaceLemmas.{rising_at}

-- one block among the others, under a function that lists something of each block
module _ {X Y : Type 0} (f : X → List Y) (blocks : List X) (at : ℕ) (d : X) (within : at < length blocks) where
  split_at : blocks ≡ take at blocks ++ get_or blocks at d ∷ drop (at + 1) blocks
  split_at = sym (take-append-drop at blocks) ∙ ap (λ rest. take at blocks ++ rest) (drop_more blocks at d within)

  pub flat_around : flat_map f blocks ≡ flat_map f (take at blocks) ++ (f (get_or blocks at d) ++ flat_map f (drop (at + 1) blocks))
  flat_around = ap (flat_map f) split_at ∙ flat_map-append f (take at blocks) (get_or blocks at d ∷ drop (at + 1) blocks)

  pub flat_set : (new : X) → flat_map f (set blocks at new) ≡ flat_map f (take at blocks) ++ (f new ++ flat_map f (drop (at + 1) blocks))
  flat_set new = ap (flat_map f) (set_split blocks at new within) ∙ flat_map-append f (take at blocks) (new ∷ drop (suc at) blocks) ∙ ap (λ n. flat_map f (take at blocks) ++ (f new ++ flat_map f (drop n blocks))) (let e : suc at ≡ at + 1 = omega arith in e)

-- the id at an index, from the entry there
module _ (id : ℕ) (entries : List Entry) (rising : AreRising (ids_in entries)) where
  id_at : (i d : ℕ) → i < length entries → get_or (ids_in entries) i d ≡ (entry_at entries i).id
  id_at i d lt = get_or-map (λ entry. entry.id) entries i no_entry d lt

  length_ids : length (ids_in entries) ≡ length entries
  length_ids = length-map entries (λ entry. entry.id)

  -- an id lies in the gap between two neighbours
  pub gap_between : (i : ℕ) → i ≤ length entries → (0 < i → (entry_at entries (i - 1)).id < id) → (i < length entries → id < (entry_at entries i).id) → IsGapFor id (ids_in entries) i
  gap_between i le before behind = record {
    in_range = omega (arith, le, length_ids);
    smaller_before = λ j d lt. omega (arith, rising_at (ids_in entries) j (i - 1) d rising (omega (arith, lt)) (omega (arith, lt, le, length_ids)), id_at (i - 1) d (omega (arith, lt, le)), before (omega (arith, lt)));
    greater_after = λ j d ij lt. omega (arith, rising_at (ids_in entries) i j d rising ij lt, id_at i d (omega (arith, ij, lt, length_ids)), behind (omega (arith, ij, lt, length_ids)));
  }

  pub found_here : (i : ℕ) → i < length entries → (entry_at entries i).id ≡ id → IsAt id (ids_in entries) i
  found_here i lt same = record { in_range = omega (arith, lt, length_ids); has_id = λ d. id_at i d lt ∙ same }

-- the entries before a block, in it and behind it
module _ (blocks : List (ArrayVec Entry)) (at : ℕ) (within : at < length blocks) where
  abbrev pub entries_before : List Entry
  entries_before = entries_of (take at blocks)

  abbrev pub entries_behind : List Entry
  entries_behind = entries_of (drop (at + 1) blocks)

  pub entries_around : entries_of blocks ≡ entries_before ++ (block_at blocks at ++ entries_behind)
  entries_around = flat_around (λ block. block.items) blocks at (record { items = [] }) within

  pub entry_in_block : (j : ℕ) → j < length (block_at blocks at) → entry_at (entries_of blocks) (length entries_before + j) ≡ entry_at (block_at blocks at) j
  entry_in_block j lt = get_or-flat_map (λ block. block.items) blocks at j (record { items = [] }) no_entry within lt

  length_around : length (entries_of blocks) ≡ length entries_before + (length (block_at blocks at) + length entries_behind)
  length_around = ap length entries_around ∙ length-append entries_before (block_at blocks at ++ entries_behind) ∙ ap (λ n. length entries_before + n) (length-append (block_at blocks at) entries_behind)

  pub index_inside : (j : ℕ) → j < length (block_at blocks at) → length entries_before + j < length (entries_of blocks)
  index_inside j lt = omega (arith, lt, length_around)

  pub index_within : (j : ℕ) → j ≤ length (block_at blocks at) → length entries_before + j ≤ length (entries_of blocks)
  index_within j le = omega (arith, le, length_around)

  -- nothing is behind the last block
  pub end_of_last : length blocks ≤ at + 1 → length entries_before + length (block_at blocks at) ≡ length (entries_of blocks)
  end_of_last last = omega (arith, length_around, ap (λ rest. length (entries_of rest)) (drop_all (at + 1) blocks last))

pub length_next : (blocks : List (ArrayVec Entry)) (at : ℕ) → at < length blocks → length (entries_of (take (at + 1) blocks)) ≡ length (entries_of (take at blocks)) + length (block_at blocks at)
length_next blocks at within =
    ap (λ xs. length (entries_of xs)) (take_more blocks at (record { items = [] }) within)
    ∙ ap length (flat_map-append (λ (block : ArrayVec Entry). block.items) (take at blocks) (get_or blocks at (record { items = [] }) ∷ []) ∙ ap (λ xs. entries_of (take at blocks) ++ xs) (append-nil (block_at blocks at)))
    ∙ length-append (entries_of (take at blocks)) (block_at blocks at)

pub read_block : (blocks : List (ArrayVec Entry)) (at : ℕ) (block : ArrayVec Entry) → at < length blocks → block ≡ get_or blocks at block → block.items ≡ block_at blocks at
read_block blocks at block within is = ap (λ (block : ArrayVec Entry). block.items) (is ∙ get_or_default blocks at block (record { items = [] }) within)

-- the position of an id: no block before it reaches the id, and its own block does, or is the last
module _ (id : ℕ) (blocks : List (ArrayVec Entry)) (rising : AreRising (ids_in (entries_of blocks))) (filled : AreFilled blocks)
    (at : ℕ) (within : at < length blocks) (index : ℕ) (index_in : index ≤ length (block_at blocks at))
    (before : 0 < index → (entry_at (block_at blocks at) (index - 1)).id < id)
    (block_before : 0 < at → (last_of (block_at blocks (at - 1))).id < id)
    (behind : index < length (block_at blocks at) → id ≤ (entry_at (block_at blocks at) index).id)
    (block_behind : at + 1 < length blocks → id ≤ (last_of (block_at blocks at)).id) where
  abbrev flat : ℕ
  flat = length (entries_of (take at blocks)) + index

  pub found_at_position : index < length (block_at blocks at) → (entry_at (block_at blocks at) index).id ≡ id → IsAt id (ids_in (entries_of blocks)) flat
  found_at_position lt same = found_here id (entries_of blocks) rising flat (index_inside blocks at within index lt) (ap (λ entry. entry.id) (entry_in_block blocks at within index lt) ∙ same)

  last_before : 0 < at → index ≡ 0 → entry_at (entries_of blocks) (flat - 1) ≡ last_of (block_at blocks (at - 1))
  last_before some first =
      let full : 0 < length (block_at blocks (at - 1)) = filled (at - 1) (omega (arith, some, within)) in
      let up = length_next blocks (at - 1) (omega (arith, within)) in
      let here : at - 1 + 1 ≡ at = omega (arith, some) in
      let n = rw here at up in
      ap (entry_at (entries_of blocks)) (let e : flat - 1 ≡ length (entries_of (take (at - 1) blocks)) + (length (block_at blocks (at - 1)) - 1) = omega (arith, n, full, first) in e)
      ∙ entry_in_block blocks (at - 1) (omega (arith, within)) (length (block_at blocks (at - 1)) - 1) (omega (arith, full))

  less_before : 0 < flat → (entry_at (entries_of blocks) (flat - 1)).id < id
  less_before some = elim (cases_eq index 0) [
    | inl first ↦ elim (cases_eq at 0) [
      | inl none ↦ absurd (let e : length (entries_of (take at blocks)) ≡ 0 = rw none refl in omega (arith, some, e, first))
      | inr more ↦ (let up : 0 < at = (let ne : at ≡ 0 → ⊥ = more in omega (arith, ne)) in rw (last_before up first) (block_before up))
    ]
    | inr more ↦ (let up : 0 < index = (let ne : index ≡ 0 → ⊥ = more in omega (arith, ne)) in
        let e : flat - 1 ≡ length (entries_of (take at blocks)) + (index - 1) = omega (arith, up) in
        rw (e, entry_in_block blocks at within (index - 1) (omega (arith, up, index_in))) (before up))
  ]

  past_end : length (block_at blocks at) ≤ index → flat < length (entries_of blocks) → ⊥
  past_end past lt = elim (cases_lt (at + 1) (length blocks)) [
    | inl more ↦ (let full : 0 < length (block_at blocks at) = filled at more in
        let same : index - 1 ≡ length (block_at blocks at) - 1 = omega (arith, past, index_in) in
        let below : (last_of (block_at blocks at)).id < id = rw same at before (omega (arith, full, past)) in
        omega (arith, below, block_behind more))
    | inr last ↦ omega (arith, past, lt, end_of_last blocks at within last)
  ]

  pub gap_at_position : (index < length (block_at blocks at) → (entry_at (block_at blocks at) index).id ≢ id) → IsGapFor id (ids_in (entries_of blocks)) flat
  gap_at_position apart = gap_between id (entries_of blocks) rising flat (index_within blocks at within index index_in) less_before
      (λ lt. elim (cases_lt index (length (block_at blocks at))) [
        | inl inside ↦ rw (entry_in_block blocks at within index inside) (let ne : (entry_at (block_at blocks at) index).id ≡ id → ⊥ = apart inside in omega (arith, behind inside, ne))
        | inr past ↦ absurd (past_end past lt)
      ])

-- an edit of one block is one of the list of all entries
module _ (blocks : List (ArrayVec Entry)) (position : Position) where
  abbrev before : List Entry
  before = entries_of (take position.block blocks)

  abbrev block : List Entry
  block = block_at blocks position.block

  abbrev behind : List Entry
  behind = entries_of (drop (position.block + 1) blocks)

  here : length before + position.index - length before ≡ position.index
  here = omega arith

  module _ (within : position.block < length blocks) where
    items_set : (new : ArrayVec Entry) → entries_of (set blocks position.block new) ≡ before ++ (new.items ++ behind)
    items_set new = flat_set (λ (block : ArrayVec Entry). block.items) blocks position.block (record { items = [] }) within new

    around : entries_of blocks ≡ before ++ (block ++ behind)
    around = entries_around blocks position.block within

    pub items_with_entry : (entry : Entry) → position.index ≤ length block → entries_of (with_entry blocks position entry) ≡ insert (entries_of blocks) (flat_index blocks position) entry
    items_with_entry entry le =
        items_set (record { items = insert block position.index entry })
        ∙ ap (λ xs. before ++ xs) (sym (insert-append_left block behind position.index entry le))
        ∙ ap (λ n. before ++ insert (block ++ behind) n entry) (sym here)
        ∙ sym (insert-append_right before (block ++ behind) (length before) (length before + position.index) entry refl (omega arith))
        ∙ ap (λ xs. insert xs (length before + position.index) entry) (sym around)

    pub items_without_entry : position.index < length block → entries_of (without_entry blocks position) ≡ remove (entries_of blocks) (flat_index blocks position)
    items_without_entry lt =
        items_set (record { items = remove block position.index })
        ∙ ap (λ xs. before ++ xs) (sym (remove-append_left block behind position.index lt))
        ∙ ap (λ n. before ++ remove (block ++ behind) n) (sym here)
        ∙ sym (remove-append_right before (block ++ behind) (length before) (length before + position.index) refl (omega arith))
        ∙ ap (λ xs. remove xs (length before + position.index)) (sym around)

    pub items_with_place : (place : ℕ) → position.index < length block
        → entries_of (with_place blocks position place) ≡ set (entries_of blocks) (flat_index blocks position) (record (entry_at block position.index) { place = place })
    items_with_place place lt =
        items_set (record { items = set block position.index new })
        ∙ ap (λ xs. before ++ xs) (sym (set-append_left block behind position.index new lt))
        ∙ ap (λ n. before ++ set (block ++ behind) n new) (sym here)
        ∙ sym (set-append_right before (block ++ behind) (length before) (length before + position.index) new refl (omega arith))
        ∙ ap (λ xs. set xs (length before + position.index) new) (sym around)
      where
        new : Entry
        new = record (entry_at block position.index) { place = place }

-- two blocks for one, one for two, and one that is taken out
module _ {Y : Type 0} (f : ArrayVec Entry → List Y) (blocks : List (ArrayVec Entry)) (at : ℕ) where
  pub flat_removed : flat_map f (remove blocks at) ≡ flat_map f (take at blocks) ++ flat_map f (drop (at + 1) blocks)
  flat_removed = flat_map-append f (take at blocks) (drop (suc at) blocks) ∙ ap (λ n. flat_map f (take at blocks) ++ flat_map f (drop n blocks)) (let e : suc at ≡ at + 1 = omega arith in e)

  module _ (within : at < length blocks) (lower upper : ArrayVec Entry) where
    pub flat_halved : flat_map f (insert (set blocks at lower) (at + 1) upper) ≡ flat_map f (take at blocks) ++ (f lower ++ (f upper ++ flat_map f (drop (at + 1) blocks)))
    flat_halved =
        flat_map-append f (take (at + 1) (set blocks at lower)) (upper ∷ drop (at + 1) (set blocks at lower))
        ∙ ap (λ rest. flat_map f (take (at + 1) (set blocks at lower)) ++ (f upper ++ flat_map f rest)) (drop-set-lt (at + 1) blocks at lower (omega arith))
        ∙ ap (λ front. flat_map f front ++ (f upper ++ flat_map f (drop (at + 1) blocks))) (take_more_set blocks at lower within)
        ∙ ap (λ front. front ++ (f upper ++ flat_map f (drop (at + 1) blocks))) (flat_map-append f (take at blocks) (lower ∷ []) ∙ ap (λ xs. flat_map f (take at blocks) ++ xs) (append-nil (f lower)))
        ∙ append_assoc (flat_map f (take at blocks)) (f lower) (f upper ++ flat_map f (drop (at + 1) blocks))

  module _ (next : at + 1 < length blocks) (both : ArrayVec Entry) where
    front_same : take at (remove blocks (at + 1)) ≡ take at blocks
    front_same =
        take-append-le at (take (at + 1) blocks) (drop (suc (at + 1)) blocks) (omega (arith, length-take-le (at + 1) blocks (omega (arith, next))))
        ∙ take-take at (at + 1) blocks (omega arith)

    rest_same : drop (at + 1) (remove blocks (at + 1)) ≡ drop (at + 2) blocks
    rest_same = drop_at (take (at + 1) blocks) (drop (suc (at + 1)) blocks) (at + 1) (length-take-le (at + 1) blocks (omega (arith, next))) ∙ ap (λ n. drop n blocks) (let e : suc (at + 1) ≡ at + 2 = omega arith in e)

    length_less : length (remove blocks (at + 1)) + 1 ≡ length blocks
    length_less = length-remove blocks (at + 1) next

    pub flat_joined : flat_map f (set (remove blocks (at + 1)) at both) ≡ flat_map f (take at blocks) ++ (f both ++ flat_map f (drop (at + 2) blocks))
    flat_joined =
        flat_set f (remove blocks (at + 1)) at (record { items = [] }) (omega (arith, length_less, next)) both
        ∙ ap (λ front. flat_map f front ++ (f both ++ flat_map f (drop (at + 1) (remove blocks (at + 1))))) front_same
        ∙ ap (λ rest. flat_map f (take at blocks) ++ (f both ++ flat_map f rest)) rest_same

    pub flat_two : flat_map f blocks ≡ flat_map f (take at blocks) ++ (f (get_or blocks at (record { items = [] })) ++ (f (get_or blocks (at + 1) (record { items = [] })) ++ flat_map f (drop (at + 2) blocks)))
    flat_two =
        flat_around f blocks at (record { items = [] }) (omega (arith, next))
        ∙ ap (λ rest. flat_map f (take at blocks) ++ (f (get_or blocks at (record { items = [] })) ++ flat_map f rest)) (drop_more blocks (at + 1) (record { items = [] }) next ∙ ap (λ n. get_or blocks (at + 1) (record { items = [] }) ∷ drop n blocks) (let e : at + 1 + 1 ≡ at + 2 = omega arith in e))

module _ (blocks : List (ArrayVec Entry)) (at : ℕ) where
  pub items_halved : at < length blocks → entries_of (halved blocks at) ≡ entries_of blocks
  items_halved within =
      flat_halved (λ (block : ArrayVec Entry). block.items) blocks at within (record { items = take 256 (block_at blocks at) }) (record { items = drop 256 (block_at blocks at) })
      ∙ ap (λ xs. entries_of (take at blocks) ++ xs) (sym (append_assoc (take 256 (block_at blocks at)) (drop 256 (block_at blocks at)) (entries_of (drop (at + 1) blocks))))
      ∙ ap (λ xs. entries_of (take at blocks) ++ (xs ++ entries_of (drop (at + 1) blocks))) (take-append-drop 256 (block_at blocks at))
      ∙ sym (entries_around blocks at within)

  pub items_joined : at + 1 < length blocks → entries_of (joined blocks at) ≡ entries_of blocks
  items_joined next =
      flat_joined (λ (block : ArrayVec Entry). block.items) blocks at next (record { items = block_at blocks at ++ block_at blocks (at + 1) })
      ∙ ap (λ xs. entries_of (take at blocks) ++ xs) (append_assoc (block_at blocks at) (block_at blocks (at + 1)) (entries_of (drop (at + 2) blocks)))
      ∙ sym (flat_two (λ (block : ArrayVec Entry). block.items) blocks at next (record { items = [] }))

  pub items_emptied : at < length blocks → length (block_at blocks at) ≡ 0 → entries_of (remove blocks at) ≡ entries_of blocks
  items_emptied within none =
      flat_removed (λ (block : ArrayVec Entry). block.items) blocks at
      ∙ ap (λ xs. entries_of (take at blocks) ++ (xs ++ entries_of (drop (at + 1) blocks))) (sym (nil_from_length (block_at blocks at) none))
      ∙ sym (entries_around blocks at within)

items_same : {a b : ArrayVec Entry} → a ≡ b → a.items ≡ b.items
items_same same = ap (λ (block : ArrayVec Entry). block.items) same

-- each block but the last has an entry
pub block_set_same : (blocks : List (ArrayVec Entry)) (at : ℕ) (new : ArrayVec Entry) → at < length blocks → block_at (set blocks at new) at ≡ new.items
block_set_same blocks at new within = ap (λ (block : ArrayVec Entry). block.items) (get_or-set_same blocks at new (record { items = [] }) within)

pub block_set_other : (blocks : List (ArrayVec Entry)) (at k : ℕ) (new : ArrayVec Entry) → k ≢ at → block_at (set blocks at new) k ≡ block_at blocks k
block_set_other blocks at k new apart = ap (λ (block : ArrayVec Entry). block.items) (get_or-set_other blocks at k new (record { items = [] }) apart)

pub filled_set : (blocks : List (ArrayVec Entry)) (at : ℕ) (new : ArrayVec Entry) → at < length blocks → AreFilled blocks → (at + 1 < length blocks → 0 < length new.items) → AreFilled (set blocks at new)
filled_set blocks at new within filled some k lt =
    let n = length-set blocks at new in
    elim (cases_eq k at) [
      | inl same ↦ rw (same, block_set_same blocks at new within) (some (omega (arith, lt, n, same)))
      | inr apart ↦ rw (block_set_other blocks at k new apart) (filled k (omega (arith, lt, n)))
    ]

pub filled_but_set : (blocks : List (ArrayVec Entry)) (at : ℕ) (new : ArrayVec Entry) → AreFilled blocks → AreFilledBut at (set blocks at new)
filled_but_set blocks at new filled k lt apart = rw (block_set_other blocks at k new apart) (filled k (omega (arith, lt, length-set blocks at new)))

pub filled_since : (blocks : List (ArrayVec Entry)) (at : ℕ) → AreFilledBut at blocks → 0 < length (block_at blocks at) → AreFilled blocks
filled_since blocks at but some k lt = elim (cases_eq k at) [
  | inl same ↦ rw same some
  | inr apart ↦ but k lt apart
]

pub filled_removed : (blocks : List (ArrayVec Entry)) (at : ℕ) → at < length blocks → AreFilledBut at blocks → AreFilled (remove blocks at)
filled_removed blocks at within but k lt =
    let n = length-remove blocks at within in
    elim (cases_lt k at) [
      | inl below ↦ (let e : block_at (remove blocks at) k ≡ block_at blocks k = items_same (get_or-remove_below blocks at (record { items = [] }) k below within) in rw e (but k (omega (arith, lt, n)) (λ same. (let e : k ≡ at = same in omega (arith, e, below)))))
      | inr above ↦ (let e : block_at (remove blocks at) k ≡ block_at blocks (k + 1) = items_same (get_or-remove_above blocks at (record { items = [] }) k above within) in rw e (but (k + 1) (omega (arith, lt, n)) (λ same. (let e : k + 1 ≡ at = same in omega (arith, e, above)))))
    ]

pub filled_inserted : (blocks : List (ArrayVec Entry)) (at : ℕ) (new : ArrayVec Entry) → at ≤ length blocks → 0 < length new.items → AreFilled blocks → (0 < at → 0 < length (block_at blocks (at - 1))) → AreFilled (insert blocks at new)
filled_inserted blocks at new within some filled front k lt =
    let n = length-insert blocks at new within in
    elim (cases_lt k at) [
      | inl below ↦ (let e : block_at (insert blocks at new) k ≡ block_at blocks k = items_same (get_or-insert_below blocks at new (record { items = [] }) k below within) in rw e (elim (cases_eq (k + 1) at) [
        | inl last ↦ (let back : at - 1 ≡ k = omega (arith, last) in let full = front (omega (arith, below)) in rw back at full)
        | inr more ↦ filled k (let ne : k + 1 ≡ at → ⊥ = more in omega (arith, ne, below, within))
      ]))
      | inr above ↦ elim (cases_eq k at) [
        | inl same ↦ rw same (let e : block_at (insert blocks at new) at ≡ new.items = items_same (get_or-insert_at blocks at new (record { items = [] }) within) in rw e some)
        | inr apart ↦ (let ne : k ≡ at → ⊥ = apart in let back : k - 1 + 1 ≡ k = omega (arith, ne, above) in
            let e : block_at (insert blocks at new) (k - 1 + 1) ≡ block_at blocks (k - 1) = items_same (get_or-insert_above blocks at new (record { items = [] }) (k - 1) (omega (arith, ne, above)) within) in
            let same = rw back at e in rw same (filled (k - 1) (omega (arith, ne, above, lt, n))))
      ]
    ]

module _ (blocks : List (ArrayVec Entry)) (at : ℕ) (filled : AreFilled blocks) where
  pub filled_halved : at < length blocks → length (block_at blocks at) ≡ 512 → AreFilled (halved blocks at)
  filled_halved within full =
      let lower : ArrayVec Entry = record { items = take 256 (block_at blocks at) } in
      let some : 0 < length (take 256 (block_at blocks at)) = omega (arith, length-take-le 256 (block_at blocks at) (omega (arith, full))) in
      filled_inserted (set blocks at (record { items = take 256 (block_at blocks at) })) (at + 1) (record { items = drop 256 (block_at blocks at) })
      (omega (arith, length-set blocks at lower, within))
      (omega (arith, length-drop 256 (block_at blocks at), full))
      (filled_set blocks at (record { items = take 256 (block_at blocks at) }) within filled (λ more. some))
      (λ up. (let e : at + 1 - 1 ≡ at = omega arith in rw (e, block_set_same blocks at lower within) some))

  pub filled_joined : at + 1 < length blocks → AreFilled (joined blocks at)
  filled_joined next =
      filled_set (remove blocks (at + 1)) at (record { items = block_at blocks at ++ block_at blocks (at + 1) })
      (omega (arith, length-remove blocks (at + 1) next, next))
      (filled_removed blocks (at + 1) next (λ k lt apart. filled k lt))
      (λ more. omega (arith, length-append (block_at blocks at) (block_at blocks (at + 1)), filled at next))

pub filled_with_entry : (blocks : List (ArrayVec Entry)) (position : Position) (entry : Entry) → IsWithin position blocks → AreFilled blocks → AreFilled (with_entry blocks position entry)
filled_with_entry blocks position entry within filled =
    filled_set blocks position.block (record { items = insert (block_at blocks position.block) position.index entry }) within.block_in filled
    (λ more. omega (arith, length-insert (block_at blocks position.block) position.index entry within.index_in))

-- the two blocks that a full one becomes
module _ (blocks : List (ArrayVec Entry)) (at : ℕ) (within : at < length blocks) where
  set_within : at + 1 ≤ length (set blocks at (record { items = take 256 (block_at blocks at) }))
  set_within = omega (arith, within, length-set blocks at (record { items = take 256 (block_at blocks at) }))

  pub block_lower : block_at (halved blocks at) at ≡ take 256 (block_at blocks at)
  block_lower =
      items_same (get_or-insert_below (set blocks at (record { items = take 256 (block_at blocks at) })) (at + 1) (record { items = drop 256 (block_at blocks at) }) (record { items = [] }) at (omega arith) set_within)
      ∙ block_set_same blocks at (record { items = take 256 (block_at blocks at) }) within

  pub block_upper : block_at (halved blocks at) (at + 1) ≡ drop 256 (block_at blocks at)
  block_upper = items_same (get_or-insert_at (set blocks at (record { items = take 256 (block_at blocks at) })) (at + 1) (record { items = drop 256 (block_at blocks at) }) (record { items = [] }) set_within)

  front_halved : take at (halved blocks at) ≡ take at blocks
  front_halved =
      take-append-le at (take (at + 1) (set blocks at (record { items = take 256 (block_at blocks at) }))) (record { items = drop 256 (block_at blocks at) } ∷ drop (at + 1) (set blocks at (record { items = take 256 (block_at blocks at) })))
      (omega (arith, length-take-le (at + 1) (set blocks at (record { items = take 256 (block_at blocks at) })) set_within))
      ∙ take-take at (at + 1) (set blocks at (record { items = take 256 (block_at blocks at) })) (omega arith)
      ∙ take-set blocks at (record { items = take 256 (block_at blocks at) })

  pub length_halved : length (halved blocks at) ≡ length blocks + 1
  length_halved =
      length-insert (set blocks at (record { items = take 256 (block_at blocks at) })) (at + 1) (record { items = drop 256 (block_at blocks at) }) set_within
      ∙ ap (λ n. n + 1) (length-set blocks at (record { items = take 256 (block_at blocks at) }))

  pub index_lower : (index : ℕ) → flat_index (halved blocks at) (record { block = at; index = index }) ≡ flat_index blocks (record { block = at; index = index })
  index_lower index = ap (λ front. length (entries_of front) + index) front_halved

  pub index_upper : (index : ℕ) → length (block_at blocks at) ≡ 512 → 256 < index
      → flat_index (halved blocks at) (record { block = at + 1; index = index - 256 }) ≡ flat_index blocks (record { block = at; index = index })
  index_upper index full above =
      let up = length_next (halved blocks at) at (omega (arith, within, length_halved)) in
      let half = length-take-le 256 (block_at blocks at) (omega (arith, full)) in
      omega (arith, up, ap length block_lower, half, ap (λ front. length (entries_of front)) front_halved, above)
