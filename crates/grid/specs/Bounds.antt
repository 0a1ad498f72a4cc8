-- The bounds of a box on a grid: the last step at or below a number, the first at or above it.
use Rattle.std.specs.Prelude.{ℕ, ◌+◌, ◌/◌, ◌%◌, ◌==◌, min, Bool, not, ℤ, pos, ◌-ℤ◌, ◌+ℤ◌, int_le, List, Option, Some, None, Result, Ok, Err, if◌then◌else◌}
use Rattle.plane.specs.declared.point.TheConstants.{LIMIT}
use Rattle.grid.specs.declared.bounds.Side.{Side}
use Rattle.grid.specs.declared.bounds.Side.TheVariants.{Low, High}
use Rattle.grid.specs.declared.faults.NumberFault.{NumberFault}
use Rattle.grid.specs.declared.faults.NumberFault.TheVariants.{NotANumber}
use Rattle.grid.specs.declared.grids.Axis.{Axis}
use Rattle.grid.specs.declared.grids.Grid.{Grid}
use Rattle.grid.specs.declared.steps.Quotient.{Quotient}
use Rattle.grid.specs.Grids.{origin_on, signed}
use Rattle.grid.specs.Numbers.{Number, number_of}
use Rattle.grid.specs.Steps.{parts_of, parts_of_step}

-- whole steps of a number without its sign: what lies between two is the farther of them from 0, or
-- the nearer one
abbrev pub whole_or_beside : Bool → ℕ → ℕ → ℕ
whole_or_beside farther parts step =
    if parts % step == 0 then parts / step else if farther then parts / step + 1 else parts / step

unfoldable pub steps_beside : Bool → ℕ → Number → ℕ
steps_beside farther decimals n =
    whole_or_beside farther (parts_of decimals n) (parts_of_step decimals n)

-- a bound below a number is farther from 0 where the number is below 0, and one above where it is not
abbrev pub is_farther : Side → Bool → Bool
is_farther Low negative = negative
is_farther High negative = not negative

-- a bound, as a coordinate; one beyond the grid is the step behind its end
abbrev pub kept_near : ℤ → ℤ
kept_near n =
    if int_le n (pos 0 -ℤ (LIMIT +ℤ pos 1)) then pos 0 -ℤ (LIMIT +ℤ pos 1)
    else if int_le (LIMIT +ℤ pos 1) n then LIMIT +ℤ pos 1 else n

abbrev pub bound_at : ℤ → Bool → ℕ → ℤ
bound_at origin negative steps = kept_near (signed negative steps -ℤ origin)

abbrev pub bound_of_number : Grid → Axis → Side → Option Number → Result ℤ NumberFault
bound_of_number grid axis side None = Err NotANumber
bound_of_number grid axis side (Some n) =
    Ok (bound_at (origin_on axis grid) n.negative
    (steps_beside (is_farther side n.negative) grid.decimals n))

-- the bound that a text means on an axis
abbrev pub bound_of : Grid → Axis → Side → List ℕ → Result ℤ NumberFault
bound_of grid axis side text = bound_of_number grid axis side (number_of text)

-- the same of what is left of a number of parts when it is divided, capped
abbrev pub quotient_beside : ℕ → Bool → Quotient → ℕ
quotient_beside cap farther q =
    if q.is_whole then q.value else if farther then min (q.value + 1) cap else q.value
