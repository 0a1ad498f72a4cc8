-- The features of a store: a list sorted by id.
use Rattle.std.specs.Prelude.{ℕ, ◌<◌, ◌==◌, List, [], ◌∷◌, Option, None, Some, if◌then◌else◌, nat_lt}
use Rattle.features.specs.declared.rows.Feature.{Feature}
use Rattle.plane.specs.declared.point.Point.{Point}

-- the feature with this id
abbrev pub feature_with : ℕ → List Feature → Option Feature
feature_with id [] = None
feature_with id (row ∷ rows) = if row.id == id then Some row else feature_with id rows

abbrev pub IsBelowAll : ℕ → List Feature → Type 0
IsBelowAll id [] = Unit {0}
IsBelowAll id (row ∷ rows) = (id < row.id) × IsBelowAll id rows

-- ids rise, so no id occurs twice
abbrev pub IsSortedById : List Feature → Type 0
IsSortedById [] = Unit {0}
IsSortedById (row ∷ rows) = IsBelowAll row.id rows × IsSortedById rows

-- the list with one more feature, inserted before the first greater id
abbrev pub with_row : Feature → List Feature → List Feature
with_row new [] = new ∷ []
with_row new (row ∷ rows) = if nat_lt new.id row.id then new ∷ row ∷ rows
    else row ∷ with_row new rows

-- the list after the feature with this id got a shape and a version; office and class stay
abbrev pub with_shape : ℕ → ℕ → List Point → List Feature → List Feature
with_shape id version shape [] = []
with_shape id version shape (row ∷ rows) =
    if row.id == id then record row { version = version; shape = shape } ∷ rows
    else row ∷ with_shape id version shape rows

-- the list without the feature with this id
abbrev pub without : ℕ → List Feature → List Feature
without id [] = []
without id (row ∷ rows) = if row.id == id then rows else row ∷ without id rows
