use Rattle.std.proofs.Common.{◌≤◌, [], ◌∷◌, length, arith}
use Rattle.features.specs.declared.rows.Change.{Change}
use Rattle.judging.specs.Judging.{AreDistinct}
use Rattle.plain_world.specs.declared.settings.TheConstants.{CHANGE_LIMIT}

pub one_is_distinct : (change : Change) → AreDistinct (change ∷ [])
one_is_distinct change = search

pub one_is_few : (change : Change) → length (change ∷ []) ≤ CHANGE_LIMIT
one_is_few change = omega arith
