-- Grids: the number of a whole coordinate, and the coordinate of a number.
use Rattle.std.specs.Prelude.{◌≡◌, ◌≤◌, ℕ, ℤ, pos, neg_ℤ, ◌-ℤ◌, Bool, List, Option, Some, None, Result, Ok, Err, if◌then◌else◌, nat_le}
use Rattle.plane.specs.Coordinates.{is_coordinate}
use Rattle.grid.specs.declared.faults.GridFault.{GridFault}
use Rattle.grid.specs.declared.faults.GridFault.TheVariants.{TooManyDecimals, Origin}
use Rattle.grid.specs.declared.faults.NumberFault.{NumberFault}
use Rattle.grid.specs.declared.faults.NumberFault.TheVariants.{NotANumber, Between as InBetween, Beyond}
use Rattle.grid.specs.declared.grids.Axis.{Axis}
use Rattle.grid.specs.declared.grids.Axis.TheVariants.{X, Y}
use Rattle.grid.specs.declared.grids.Between.{Between}
use Rattle.grid.specs.declared.grids.Between.TheVariants.{Refuse}
use Rattle.grid.specs.declared.grids.Grid.{Grid}
use Rattle.grid.specs.declared.grids.TheConstants.{MOST_DECIMALS}
use Rattle.grid.specs.Origins.{is_origin}
use Rattle.grid.specs.Numbers.{Number, number_of}
use Rattle.grid.specs.Steps.{steps_of}

-- the origin on an axis, in steps
abbrev pub origin_on : Axis → Grid → ℤ
origin_on X grid = grid.x
origin_on Y grid = grid.y

abbrev pub signed : Bool → ℕ → ℤ
signed negative n = if negative then neg_ℤ (pos n) else pos n

-- steps from 0, if there are whole ones
abbrev pub signed_steps : Bool → Option ℕ → Result ℤ NumberFault
signed_steps negative None = Err InBetween
signed_steps negative (Some n) = Ok (signed negative n)

abbrev pub number_steps : Between → ℕ → Option Number → Result ℤ NumberFault
number_steps between decimals None = Err NotANumber
number_steps between decimals (Some n) = signed_steps n.negative (steps_of between decimals n)

-- how many steps from 0 a text spells
unfoldable pub text_steps : Between → ℕ → List ℕ → Result ℤ NumberFault
text_steps between decimals text = number_steps between decimals (number_of text)

-- steps from 0 as a coordinate
abbrev pub on_grid : ℤ → Result ℤ NumberFault → Result ℤ NumberFault
on_grid origin (Err fault) = Err fault
on_grid origin (Ok steps) =
    if is_coordinate (steps -ℤ origin) then Ok (steps -ℤ origin) else Err Beyond

-- the coordinate that a text means on an axis
abbrev pub coordinate_of : Grid → Axis → List ℕ → Result ℤ NumberFault
coordinate_of grid axis text =
    on_grid (origin_on axis grid) (text_steps grid.between grid.decimals text)

-- steps from 0 as an origin
abbrev pub as_origin : Result ℤ NumberFault → Result ℤ NumberFault
as_origin (Err fault) = Err fault
as_origin (Ok steps) = if is_origin steps then Ok steps else Err Beyond

-- an origin on an axis, in steps
abbrev pub origin_fault : Axis → Result ℤ NumberFault → Result ℤ GridFault
origin_fault axis (Ok steps) = Ok steps
origin_fault axis (Err fault) = Err (Origin axis fault)

abbrev pub origin_of : Axis → ℕ → List ℕ → Result ℤ GridFault
origin_of axis decimals text = origin_fault axis (as_origin (text_steps Refuse decimals text))

-- the grid has this origin, these decimals, and treats what lies between two steps so
pub record IsGridOf (x y : List ℕ) (decimals : ℕ) (between : Between) (grid : Grid) : Type 0 where
  pub few : decimals ≤ MOST_DECIMALS
  pub x_is : origin_of X decimals x ≡ Ok grid.x
  pub y_is : origin_of Y decimals y ≡ Ok grid.y
  pub decimals_is : grid.decimals ≡ decimals
  pub between_is : grid.between ≡ between

-- the first fault of an origin and decimals
abbrev pub first_of_two : Result ℤ GridFault → Result ℤ GridFault → Option GridFault
first_of_two (Err fault) y = Some fault
first_of_two (Ok x) (Err fault) = Some fault
first_of_two (Ok x) (Ok y) = None

abbrev pub grid_fault : List ℕ → List ℕ → ℕ → Option GridFault
grid_fault x y decimals =
    if nat_le decimals MOST_DECIMALS
    then first_of_two (origin_of X decimals x) (origin_of Y decimals y) else Some TooManyDecimals

-- a whole coordinate means itself
abbrev pub AreWholeNumbers : Grid → Type 0
AreWholeNumbers grid =
    (grid.x ≡ pos 0) × (grid.y ≡ pos 0) × (grid.decimals ≡ 0) × (grid.between ≡ Refuse)
