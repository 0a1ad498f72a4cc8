-- Lists of changes, change by change.
use Rattle.std.proofs.Common.{◌≡◌, ◌≢◌, ℕ, ◌+◌, ◌<◌, ◌≤◌, Result, Ok, Err, List, [], ◌∷◌, length, ◌∙◌, ap, arith}
use Rattle.features.specs.declared.rows.Feature.{Feature}
use Rattle.features.specs.declared.rows.Change.{Change}
use Rattle.features.specs.declared.rows.Change.TheVariants.{Add, Reshape, Delete}
use Rattle.features.specs.Changes.{change_id, after_change, after, IsUnnamed, CanChange, CanApply, additions, deletions}
use Rattle.features.specs.Rows.{feature_with}
use Rattle.feature_store.specs.declared.tables.Table.{Table}
use Rattle.feature_store.specs.Tables.{HasRoom}
use Rattle.memory.specs.declared.no_memory.NoMemory.{NoMemory}
use Rattle.feature_store.specs.declared.stores.StoreFault.{StoreFault}
use Rattle.feature_store.specs.declared.stores.StoreFault.TheVariants.{Full, Memory}
use Rattle.std.specs.Result.{IsErrAnd}
use Rattle.feature_store.proofs.RowLemmas.{feature_with-with_row, feature_with-with_shape, feature_with-without, length-with_row, length-with_shape, length-without}

-- a change of one feature leaves every other feature unchanged
pub found_still : (version : ℕ) (office : List ℕ) (first : Change) (id : ℕ) (rows : List Feature) → id ≢ change_id first → feature_with id (after_change version office first rows) ≡ feature_with id rows
found_still version office (Add other class shape) id rows differ = feature_with-with_row id _ rows (λ same. differ (omega arith))
found_still version office (Reshape other known shape) id rows differ = feature_with-with_shape other version shape id rows (λ same. differ (omega arith))
found_still version office (Delete other known) id rows differ = feature_with-without other id rows (λ same. differ (omega arith))

-- a change can still be made after one of another feature
can_change_still : (version : ℕ) (office : List ℕ) (first later : Change) (rows : List Feature) → change_id later ≢ change_id first → CanChange later rows → CanChange later (after_change version office first rows)
can_change_still version office first (Add id class shape) rows differ can = found_still version office first id rows differ ∙ can
can_change_still version office first (Reshape id known shape) rows differ can = rw (found_still version office first id rows differ) can
can_change_still version office first (Delete id known) rows differ can = rw (found_still version office first id rows differ) can

pub can_apply_rest : (version : ℕ) (office : List ℕ) (first : Change) (changes : List Change) (rows : List Feature) → IsUnnamed (change_id first) changes → CanApply changes rows → CanApply changes (after_change version office first rows)
can_apply_rest version office first [] rows unnamed can = tt
can_apply_rest version office first (change ∷ changes) rows unnamed can =
    (can_change_still version office first change rows unnamed.0 can.0, can.1, can_apply_rest version office first changes rows unnamed.1 can.2)

-- each addition adds one to the count, and each deletion removes one
pub length_after : (version : ℕ) (office : List ℕ) (changes : List Change) (rows : List Feature) → CanApply changes rows → length (after version office changes rows) + deletions changes ≡ length rows + additions changes
length_after version office [] rows can = omega arith
length_after version office (change ∷ changes) rows can = go change (length_after version office changes (after_change version office change rows) (can_apply_rest version office change changes rows can.1 can.2)) can.0
  where
    go : (change : Change) → length (after version office changes (after_change version office change rows)) + deletions changes ≡ length (after_change version office change rows) + additions changes
        → CanChange change rows → length (after version office changes (after_change version office change rows)) + deletions (change ∷ changes) ≡ length rows + additions (change ∷ changes)
    go (Add id class shape) rest can = omega (arith, rest, length-with_row (record { id = id; version = version; office = office; class = class; shape = shape }) rows)
    go (Reshape id known shape) rest can = omega (arith, rest, length-with_shape id version shape rows)
    go (Delete id known) rest can = omega (arith, rest, length-without id rows can)

pub additions_few : (changes : List Change) → additions changes ≤ length changes
additions_few [] = omega arith
additions_few (Add id class shape ∷ changes) = omega (arith, additions_few changes)
additions_few (Reshape id known shape ∷ changes) = omega (arith, additions_few changes)
additions_few (Delete id known ∷ changes) = omega (arith, additions_few changes)

pub deletions_few : (changes : List Change) → deletions changes ≤ length changes
deletions_few [] = omega arith
deletions_few (Add id class shape ∷ changes) = omega (arith, deletions_few changes)
deletions_few (Reshape id known shape ∷ changes) = omega (arith, deletions_few changes)
deletions_few (Delete id known ∷ changes) = omega (arith, deletions_few changes)

-- the additions of a list are those of its first change and those of the others
pub additions_first : (change : Change) (changes : List Change) → additions (change ∷ changes) ≡ additions changes + additions (change ∷ [])
additions_first (Add id class shape) changes = omega arith
additions_first (Reshape id known shape) changes = omega arith
additions_first (Delete id known) changes = omega arith

pub room_for_less : {A : Type 0} (n m : ℕ) (table : Table A) → m ≤ n → HasRoom n table → HasRoom m table
room_for_less n m table le room = record {
  entries_room = omega (arith, le, room.entries_room);
  features_room = omega (arith, le, room.features_room);
  numbers = omega (arith, le, room.numbers);
}

-- what the counts say about the number of features after a list
module _ (limit version : ℕ) (office : List ℕ) (changes : List Change) (rows : List Feature) (len added deleted : ℕ) (can : CanApply changes rows)
    (len_is : len ≡ length rows) (added_is : added ≡ additions changes) (deleted_is : deleted ≡ deletions changes) where
  pub more_stand : limit + deleted < len + added → limit < length (after version office changes rows)
  more_stand more = omega (arith, more, len_is, added_is, deleted_is, length_after version office changes rows can)

  pub fit : len + added ≤ limit + deleted → length (after version office changes rows) ≤ limit
  fit few = omega (arith, few, len_is, added_is, deleted_is, length_after version office changes rows can)

pub not_full : (r : Result (Unit {0}) StoreFault) (x : NoMemory) → IsErrAnd r (λ fault. fault ≡ Memory x) → r ≡ Err Full → ⊥
not_full (Ok u) x h same = absurd cc
not_full (Err Full) x h same = absurd cc
not_full (Err (Memory y)) x h same = absurd cc

-- one step of a loop over changes
pub record IsStep (version : ℕ) (office : List ℕ) (change : Change) (changes : List Change) (rows new : List Feature) : Type 0 where
  pub can_apply : CanApply changes new
  pub told : after version office changes new ≡ after version office (change ∷ changes) rows

pub stepped : (version : ℕ) (office : List ℕ) (change : Change) (changes : List Change) (rows new : List Feature) → CanApply (change ∷ changes) rows → new ≡ after_change version office change rows → IsStep version office change changes rows new
stepped version office change changes rows new can made = record {
  can_apply = rw made (can_apply_rest version office change changes rows can.1 can.2);
  told = ap (after version office changes) made;
}
