-- Which pairs the index of a world keeps.
use Rattle.std.specs.Prelude.{ℕ, ◌==◌, ◌||◌, ◌&&◌, Bool, false, List, Option, None, Some}
use Rattle.std.specs.List.{list_any}
use Rattle.plane.specs.declared.point.Point.{Point}
use Rattle.plane.specs.Equality.{same_shape}
use Rattle.features.specs.declared.rows.Change.{Change}
use Rattle.features.specs.declared.rows.Change.TheVariants.{Add, Reshape, Delete}
use Rattle.features.specs.declared.rows.Feature.{Feature}
use Rattle.features.specs.Rows.{feature_with}
use Rattle.plain_world.specs.Staging.{TransactionData}
use Rattle.plain_world.specs.States.{WorldData}

abbrev pub has_shape : List Point → Option Feature → Bool
has_shape shape None = false
has_shape shape (Some feature) = same_shape feature.shape shape

-- the feature of this id has this shape
abbrev pub stands : ℕ → List Point → List Feature → Bool
stands id shape features = has_shape shape (feature_with id features)

-- the change gives the feature of this id this shape
abbrev pub brings : ℕ → List Point → Change → Bool
brings id shape (Add added class new) = added == id && same_shape new shape
brings id shape (Reshape known version new) = known == id && same_shape new shape
brings id shape (Delete known version) = false

-- an open transaction has staged a change that gives the feature of this id this shape
abbrev pub is_staged : ℕ → List Point → List TransactionData → Bool
is_staged id shape ts = list_any (λ t. list_any (λ change. brings id shape change) t.changes) ts

-- The pair of this id and this shape stays: the feature has this shape, or an open transaction
-- would give it.
abbrev pub is_kept : ℕ → List Point → WorldData → Bool
is_kept id shape w = stands id shape w.state.features || is_staged id shape w.transactions
