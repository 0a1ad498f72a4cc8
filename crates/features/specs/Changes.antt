-- Lists of changes, and the features after them.
use Rattle.std.specs.Prelude.{◌≡◌, ◌≢◌, ℕ, ◌+◌, List, [], ◌∷◌, None, IsSome}
use Rattle.features.specs.declared.rows.Feature.{Feature}
use Rattle.features.specs.declared.rows.Change.{Change}
use Rattle.features.specs.declared.rows.Change.TheVariants.{Add, Reshape, Delete}
use Rattle.features.specs.Rows.{feature_with, with_row, with_shape, without}

-- the id of the feature that is changed
abbrev pub change_id : Change → ℕ
change_id (Add id class shape) = id
change_id (Reshape id known shape) = id
change_id (Delete id known) = id

-- The features after one change under a version: an added feature belongs to the office that adds
-- it, a reshaped one has the new shape, a deleted one is removed. The version that the editor has
-- seen does not matter here; it is compared when the list is judged.
abbrev pub after_change : ℕ → List ℕ → Change → List Feature → List Feature
after_change version office (Add id class shape) rows =
    with_row (record { id = id; version = version; office = office; class = class; shape = shape })
    rows
after_change version office (Reshape id known shape) rows = with_shape id version shape rows
after_change version office (Delete id known) rows = without id rows

-- the features after a list of changes
abbrev pub after : ℕ → List ℕ → List Change → List Feature → List Feature
after version office [] rows = rows
after version office (change ∷ changes) rows =
    after version office changes (after_change version office change rows)

-- no change of the list has this id
abbrev pub IsUnnamed : ℕ → List Change → Type 0
IsUnnamed id [] = Unit {0}
IsUnnamed id (change ∷ changes) = (change_id change ≢ id) × IsUnnamed id changes

-- a change can be made: a feature to add is not there yet, any other is there
abbrev pub CanChange : Change → List Feature → Type 0
CanChange (Add id class shape) rows = feature_with id rows ≡ None
CanChange (Reshape id known shape) rows = IsSome (feature_with id rows)
CanChange (Delete id known) rows = IsSome (feature_with id rows)

-- each change can be made in these features, and no two have the same id
abbrev pub CanApply : List Change → List Feature → Type 0
CanApply [] rows = Unit {0}
CanApply (change ∷ changes) rows = CanChange change rows × IsUnnamed (change_id change) changes
    × CanApply changes rows

-- how many features a list of changes adds, and how many it deletes
abbrev pub additions : List Change → ℕ
additions [] = 0
additions (Add id class shape ∷ changes) = additions changes + 1
additions (Reshape id known shape ∷ changes) = additions changes
additions (Delete id known ∷ changes) = additions changes

abbrev pub deletions : List Change → ℕ
deletions [] = 0
deletions (Add id class shape ∷ changes) = deletions changes
deletions (Reshape id known shape ∷ changes) = deletions changes
deletions (Delete id known ∷ changes) = deletions changes + 1
