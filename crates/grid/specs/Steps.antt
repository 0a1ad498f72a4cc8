-- How many steps of a grid a number is from 0.
use Rattle.std.specs.Prelude.{ℕ, ◌+◌, ◌-◌, ◌*◌, ◌/◌, ◌%◌, ◌^◌, ◌==◌, Option, Some, None, if◌then◌else◌, nat_le}
use Rattle.std.specs.Str.Parse.{digits_value}
use Rattle.grid.specs.declared.grids.Between.{Between}
use Rattle.grid.specs.declared.grids.Between.TheVariants.{Refuse, Nearest}
use Rattle.grid.specs.Numbers.{Number}

-- With `decimals` decimals a step is 1 / 10 ^ decimals. A number is this many parts, each of which
-- is a step divided by `parts_of_step`; one of the two powers of ten is 1.
abbrev pub parts_of : ℕ → Number → ℕ
parts_of decimals n = digits_value 10 n.digits * 10 ^ ((n.up + decimals) - n.down)

abbrev pub parts_of_step : ℕ → Number → ℕ
parts_of_step decimals n = 10 ^ (n.down - (n.up + decimals))

-- the nearest number of whole steps; of two equally near ones, the greater
abbrev pub nearest : ℕ → ℕ → ℕ
nearest parts step = if nat_le step (2 * (parts % step)) then parts / step + 1 else parts / step

-- whole steps; what lies between two is refused, or is the nearest
abbrev pub rounded : Between → ℕ → ℕ → Option ℕ
rounded Refuse parts step = None
rounded Nearest parts step = Some (nearest parts step)

abbrev pub whole_steps : Between → ℕ → ℕ → Option ℕ
whole_steps between parts step =
    if parts % step == 0 then Some (parts / step) else rounded between parts step

-- the steps from 0, whatever the sign
unfoldable pub steps_of : Between → ℕ → Number → Option ℕ
steps_of between decimals n = whole_steps between (parts_of decimals n) (parts_of_step decimals n)
