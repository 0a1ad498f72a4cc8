-- The range of a coordinate.
use Rattle.std.specs.Prelude.{Bool, ◌&&◌, ℤ, pos, ◌-ℤ◌, ◌≤ℤ◌, int_le}
use Rattle.plane.specs.declared.point.TheConstants.{LIMIT}

-- a coordinate is from -LIMIT to LIMIT
pub record IsCoordinate (value : ℤ) : Type 0 where
  pub low : (pos 0 -ℤ LIMIT) ≤ℤ value
  pub high : value ≤ℤ LIMIT

-- the same, as a test
abbrev pub is_coordinate : ℤ → Bool
is_coordinate value = int_le (pos 0 -ℤ LIMIT) value && int_le value LIMIT
