-- That ids rise is a fact: it has one proof at most.
use Rattle.std.specs.Prelude.{ℕ, ◌<◌, List, [], ◌∷◌}
use Rattle.std.specs.Coded.{le_prop}
use mathlib.Core.HLevel.{×_prop, Unit-prop}
use Rattle.features.specs.declared.rows.Feature.{Feature}
use Rattle.features.specs.Rows.{IsBelowAll, IsSortedById}

pub below_prop : (id : ℕ) (rows : List Feature) → IsProp (IsBelowAll id rows)
below_prop id [] = Unit-prop
below_prop id (row ∷ rows) = ×_prop le_prop (below_prop id rows)

pub sorted_prop : (rows : List Feature) → IsProp (IsSortedById rows)
sorted_prop [] = Unit-prop
sorted_prop (row ∷ rows) = ×_prop (below_prop row.id rows) (sorted_prop rows)
