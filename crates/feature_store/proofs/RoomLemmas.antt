-- How much room blocks leave for more entries, before and after a change.
use Rattle.std.proofs.Common.{◌≡◌, ℕ, ◌+◌, ◌-◌, ◌*◌, ◌<◌, ◌≤◌, ◌⊎◌, inl, inr, max, List, [], ◌∷◌, ◌++◌, length, set, take, drop, ap, ◌∙◌, arith}
use Rattle.std.specs.List.{flat_map, remove}
use Rattle.std.proofs.lemmas.List.{length-append, length-drop, length-set, length-take-le}
use Rattle.std.proofs.lemmas.List.Edits.{length-remove}
use Rattle.arrayvec.specs.ArrayVec.{ArrayVec}
use Rattle.feature_store.specs.declared.blocks.Entry.{Entry}
use Rattle.feature_store.specs.Blocks.{above_half, block_at, entries_of, excess_in, fill_in, halved, joined, room_in, spare_in}
use Rattle.feature_store.proofs.BlockLemmas.{flat_around, flat_set, flat_removed, flat_halved, flat_joined, flat_two, length_halved}

length_three : {Y : Type 0} (xs ys zs : List Y) → length (xs ++ (ys ++ zs)) ≡ length xs + (length ys + length zs)
length_three xs ys zs = length-append xs (ys ++ zs) ∙ ap (λ n. length xs + n) (length-append ys zs)

-- no more entries are above a half than there are
pub excess_few : (blocks : List (ArrayVec Entry)) → excess_in blocks ≤ length (entries_of blocks)
excess_few [] = omega arith
excess_few (block ∷ blocks) =
    omega (arith, length-append (above_half block) (flat_map above_half blocks), length-append block.items (entries_of blocks), length-drop 256 block.items, excess_few blocks)

module _ (blocks : List (ArrayVec Entry)) (at : ℕ) where
  excess_around : at < length blocks → excess_in blocks ≡ excess_in (take at blocks) + ((length (block_at blocks at) - 256) + excess_in (drop (at + 1) blocks))
  excess_around within =
      ap length (flat_around above_half blocks at (record { items = [] }) within)
      ∙ length_three (flat_map above_half (take at blocks)) (drop 256 (block_at blocks at)) (flat_map above_half (drop (at + 1) blocks))
      ∙ ap (λ n. excess_in (take at blocks) + (n + excess_in (drop (at + 1) blocks))) (length-drop 256 (block_at blocks at))

  excess_set : (new : ArrayVec Entry) → at < length blocks → excess_in (set blocks at new) ≡ excess_in (take at blocks) + ((length new.items - 256) + excess_in (drop (at + 1) blocks))
  excess_set new within =
      ap length (flat_set above_half blocks at (record { items = [] }) within new)
      ∙ length_three (flat_map above_half (take at blocks)) (drop 256 new.items) (flat_map above_half (drop (at + 1) blocks))
      ∙ ap (λ n. excess_in (take at blocks) + (n + excess_in (drop (at + 1) blocks))) (length-drop 256 new.items)

  -- a block gets one more entry
  pub fill_one_less : (capacity : ℕ) (new : ArrayVec Entry) → at < length blocks → length new.items ≤ length (block_at blocks at) + 1 → fill_in blocks capacity ≤ fill_in (set blocks at new) capacity + 1
  fill_one_less capacity new within few = omega (arith, few, length-set blocks at new, excess_around within, excess_set new within)

  pub spare_same : (capacity : ℕ) (new : ArrayVec Entry) → spare_in (set blocks at new) capacity ≡ spare_in blocks capacity
  spare_same capacity new = ap (λ n. capacity - max 1 n) (length-set blocks at new)

  -- a block gets no more entries than it had
  pub room_set : (capacity : ℕ) (new : ArrayVec Entry) → at < length blocks → length new.items ≤ length (block_at blocks at) → room_in blocks capacity ≤ room_in (set blocks at new) capacity
  room_set capacity new within few = omega (arith, few, length-set blocks at new, excess_around within, excess_set new within)

  pub room_removed : (capacity : ℕ) → at < length blocks → room_in blocks capacity ≤ room_in (remove blocks at) capacity
  room_removed capacity within =
      let left : excess_in (remove blocks at) ≡ excess_in (take at blocks) + excess_in (drop (at + 1) blocks) =
      ap length (flat_removed above_half blocks at) ∙ length-append (flat_map above_half (take at blocks)) (flat_map above_half (drop (at + 1) blocks)) in
      omega (arith, left, length-remove blocks at within, excess_around within)

  module _ (capacity : ℕ) (within : at < length blocks) (full : length (block_at blocks at) ≡ 512) where
    excess_halved : excess_in (halved blocks at) + 256 ≡ excess_in blocks
    excess_halved =
        let parts = ap length (flat_halved above_half blocks at within (record { items = take 256 (block_at blocks at) }) (record { items = drop 256 (block_at blocks at) })) in
        let counted = length_three (flat_map above_half (take at blocks)) (drop 256 (take 256 (block_at blocks at))) (drop 256 (drop 256 (block_at blocks at)) ++ flat_map above_half (drop (at + 1) blocks)) in
        omega (
          arith,
          parts,
          counted,
          length-append (drop 256 (drop 256 (block_at blocks at))) (flat_map above_half (drop (at + 1) blocks)),
          length-drop 256 (take 256 (block_at blocks at)),
          length-drop 256 (drop 256 (block_at blocks at)),
          length-drop 256 (block_at blocks at),
          length-take-le 256 (block_at blocks at) (omega (arith, full)),
          full,
          excess_around within,
        )

    pub fill_halved : fill_in blocks capacity ≤ fill_in (halved blocks at) capacity
    fill_halved = omega (arith, length_halved blocks at within, excess_halved, within)

    pub spare_halved : spare_in blocks capacity ≤ spare_in (halved blocks at) capacity + 1
    spare_halved = omega (arith, length_halved blocks at within, within)

  pub room_joined : (capacity : ℕ) → at + 1 < length blocks → length (block_at blocks at) + length (block_at blocks (at + 1)) ≤ 256 → room_in blocks capacity ≤ room_in (joined blocks at) capacity
  room_joined capacity next small =
      let both : ArrayVec Entry = record { items = block_at blocks at ++ block_at blocks (at + 1) } in
      let count : length (joined blocks at) + 1 ≡ length blocks = ap (λ n. n + 1) (length-set (remove blocks (at + 1)) at both) ∙ length-remove blocks (at + 1) next in
      let parts = ap length (flat_joined above_half blocks at next both) in
      let counted = length_three (flat_map above_half (take at blocks)) (drop 256 (block_at blocks at ++ block_at blocks (at + 1))) (flat_map above_half (drop (at + 2) blocks)) in
      let whole = ap length (flat_two above_half blocks at next both) in
      let told = length_three (flat_map above_half (take at blocks)) (drop 256 (block_at blocks at)) (drop 256 (block_at blocks (at + 1)) ++ flat_map above_half (drop (at + 2) blocks)) in
      let rest = length-append (drop 256 (block_at blocks (at + 1))) (flat_map above_half (drop (at + 2) blocks)) in
      let none = length-drop 256 (block_at blocks at ++ block_at blocks (at + 1)) in
      let sum = length-append (block_at blocks at) (block_at blocks (at + 1)) in
      let fewer : excess_in (joined blocks at) ≤ excess_in blocks = omega (arith, parts, counted, whole, told, rest, none, sum, small) in
      omega (arith, fewer, count, next)

-- room for more blocks is room for more entries
pub room_made : (blocks : List (ArrayVec Entry)) (capacity count additional more : ℕ) → length (entries_of blocks) ≤ count
    → (additional ≤ more) ⊎ (count + additional < 256 * more) → length blocks + (more + 1) ≤ capacity → additional ≤ room_in blocks capacity
room_made blocks capacity count additional more few (inl all) fits = omega (arith, all, fits)
room_made blocks capacity count additional more few (inr some) fits = omega (arith, few, some, fits, excess_few blocks)

-- the room for entries falls by one at most where that for blocks falls by one, and the fill by one
pub room_falls : (room s f t g u h : ℕ) → room ≤ max s f → s ≤ t + 1 → f ≤ g → u ≡ t → g ≤ h + 1 → room ≤ max u h + 1
room_falls room s f t g u h up s_falls f_stays u_is h_falls = omega (arith, up, s_falls, f_stays, u_is, h_falls)

-- the same as `room_set`, for the blocks and the capacity that a call leaves
pub room_left : (blocks : List (ArrayVec Entry)) (at capacity : ℕ) (new : ArrayVec Entry) (others : List (ArrayVec Entry)) (other : ℕ) → others ≡ set blocks at new → other ≡ capacity
    → at < length blocks → length new.items ≤ length (block_at blocks at) → room_in blocks capacity ≤ room_in others other
room_left blocks at capacity new others other same_blocks same_capacity within few = rw (same_blocks, same_capacity) (room_set blocks at capacity new within few)
