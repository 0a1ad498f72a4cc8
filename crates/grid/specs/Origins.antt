-- The range of an origin.
use Rattle.std.specs.Prelude.{Bool, ◌&&◌, ℤ, pos, ◌-ℤ◌, ◌≤ℤ◌, int_le}
use Rattle.grid.specs.declared.grids.TheConstants.{ORIGIN_LIMIT}

-- an origin is at most this many steps from 0
pub record IsOrigin (steps : ℤ) : Type 0 where
  pub low : (pos 0 -ℤ ORIGIN_LIMIT) ≤ℤ steps
  pub high : steps ≤ℤ ORIGIN_LIMIT

abbrev pub is_origin : ℤ → Bool
is_origin steps = int_le (pos 0 -ℤ ORIGIN_LIMIT) steps && int_le steps ORIGIN_LIMIT
