-- What a text says exactly, as a fraction of whole numbers.
use Rattle.std.specs.Prelude.{◌≡◌, ℕ, ◌+◌, ◌*◌, ◌^◌, ℤ, pos, ◌+ℤ◌, ◌*ℤ◌, ◌≤ℤ◌, true, false, List, Some}
use Rattle.std.specs.Str.Parse.{digits_value}
use Rattle.grid.specs.declared.grids.Axis.{Axis}
use Rattle.grid.specs.declared.grids.Grid.{Grid}
use Rattle.grid.specs.Grids.{origin_on, signed}
use Rattle.grid.specs.Numbers.{Number, number_of}

-- The text spells a number, and it is that of a coordinate on the axis: the origin and `n` are
-- together this many steps from 0, each 1 / 10 ^ decimals.
pub record Means (grid : Grid) (axis : Axis) (text : List ℕ) (n : ℤ) : Type 0 where
  pub number : Number
  pub spelled : number_of text ≡ Some number
  pub steps : ℕ
  pub placed : origin_on axis grid +ℤ n ≡ signed number.negative steps
  pub exact : digits_value 10 number.digits * 10 ^ (number.up + grid.decimals) ≡ steps * 10 ^ number.down

-- A number, and the place of a coordinate on an axis, in the same parts, each of which is
-- 1 / 10 ^ (decimals + number.down).
abbrev pub number_parts : Grid → Number → ℤ
number_parts grid number =
    signed number.negative (digits_value 10 number.digits * 10 ^ (number.up + grid.decimals))

abbrev pub place_parts : Grid → Axis → Number → ℤ → ℤ
place_parts grid axis number n = (origin_on axis grid +ℤ n) *ℤ pos (10 ^ number.down)

-- a coordinate lies at the number or below it; at the number or above it
abbrev pub IsAtMost : Grid → Axis → Number → ℤ → Type 0
IsAtMost grid axis number n = place_parts grid axis number n ≤ℤ number_parts grid number

abbrev pub IsAtLeast : Grid → Axis → Number → ℤ → Type 0
IsAtLeast grid axis number n = number_parts grid number ≤ℤ place_parts grid axis number n

-- A number and a coordinate lie at most half a step apart; a step is 10 ^ number.down of these
-- parts. Where it is just half a step, the coordinate is the one farther from 0.
pub record IsNearest (grid : Grid) (axis : Axis) (number : Number) (n : ℤ) : Type 0 where
  pub not_above : (place_parts grid axis number n +ℤ place_parts grid axis number n)
      ≤ℤ (number_parts grid number +ℤ number_parts grid number +ℤ pos (10 ^ number.down))
  pub not_below : (number_parts grid number +ℤ number_parts grid number)
      ≤ℤ (place_parts grid axis number n +ℤ place_parts grid axis number n +ℤ pos (10 ^ number.down))
  pub half_above : place_parts grid axis number n +ℤ place_parts grid axis number n
      ≡ number_parts grid number +ℤ number_parts grid number +ℤ pos (10 ^ number.down)
      → number.negative ≡ false
  pub half_below : number_parts grid number +ℤ number_parts grid number
      ≡ place_parts grid axis number n +ℤ place_parts grid axis number n +ℤ pos (10 ^ number.down)
      → number.negative ≡ true
