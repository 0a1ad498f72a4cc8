-- How a row of places changes.
use Rattle.std.specs.Prelude.{ℕ, Some, slice_set}
use base.Fml.{Fml}
use denote.RattleType.{RattleType}
use denote.Ref.{MutBor}
use denote.Follow.{follows}
use Rattle.chunks.specs.declared.places.Places.{Places}
use Rattle.chunks.specs.contracts.places.Places.{the_row}

-- the row with this value in the place
abbrev pub with_value : {X : Type 0} → Places X → ℕ → X → Places X
with_value row place value = record { at = row.at; items = slice_set row.items place (Some value) }

-- once the loan of a place ends, the row has there what was written last
abbrev pub follows_place : (R : RattleType) → MutBor (Places R.Denot) → ℕ → MutBor R.Denot → Fml
follows_place R row place lent =
    follows (the_row R) R row.ghost_name lent.ghost_name (with_value row.now place)
