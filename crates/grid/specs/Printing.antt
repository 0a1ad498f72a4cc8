-- The text of a coordinate.
use Rattle.std.specs.Prelude.{ℕ, zero, suc, ◌/◌, ◌%◌, ◌^◌, ◌==◌, ℤ, pos, negsuc, ◌+ℤ◌, List, [], ◌++◌, codes, decimal, if◌then◌else◌}
use Rattle.grid.specs.declared.grids.Axis.{Axis}
use Rattle.grid.specs.declared.grids.Grid.{Grid}
use Rattle.grid.specs.Grids.{origin_on}

-- the last so many digits of a number, with zeros in front
unfoldable pub last_digits : ℕ → ℕ → List ℕ
last_digits zero n = []
last_digits (suc k) n = decimal (n / 10 ^ k) ++ last_digits k (n % 10 ^ k)

-- the digits behind the point
abbrev pub fraction_text : ℕ → ℕ → List ℕ
fraction_text decimals n = if decimals == 0 then [] else codes "." ++ last_digits decimals n

-- this many steps
abbrev pub steps_text : ℕ → ℕ → List ℕ
steps_text decimals n = decimal (n / 10 ^ decimals) ++ fraction_text decimals (n % 10 ^ decimals)

abbrev pub signed_text : ℕ → ℤ → List ℕ
signed_text decimals (pos n) = steps_text decimals n
signed_text decimals (negsuc n) = codes "-" ++ steps_text decimals (suc n)

-- the text of a coordinate on an axis
abbrev pub coordinate_text : Grid → Axis → ℤ → List ℕ
coordinate_text grid axis n = signed_text grid.decimals (origin_on axis grid +ℤ n)
