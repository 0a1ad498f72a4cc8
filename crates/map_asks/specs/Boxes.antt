-- The box that a `bbox` spells.
use Rattle.std.specs.Prelude.{ℕ, ◌==◌, ℤ, Bool, List, count_by, Option, None, Some, is_some, Result, if◌then◌else◌}
use Rattle.std.specs.Result.{result_ok}
use Rattle.grid.specs.Bounds.{bound_of}
use Rattle.grid.specs.declared.bounds.Side.{Side}
use Rattle.grid.specs.declared.bounds.Side.TheVariants.{Low, High}
use Rattle.grid.specs.declared.grids.Axis.{Axis}
use Rattle.grid.specs.declared.grids.Axis.TheVariants.{X, Y}
use Rattle.grid.specs.declared.grids.Grid.{Grid}
use Rattle.map_asks.specs.Cuts.{front, behind}
use Rattle.map_asks.specs.Windows.{window_of}
use Rattle.map_asks.specs.declared.windows.Bounds.{Bounds}
use Rattle.map_asks.specs.declared.windows.Window.{Window}

infixl 10 ◌>>=◌
abbrev pub ◌>>=◌ : {A B : Type 0} → Option A → (A → Option B) → Option B
None >>= f = None
(Some x) >>= f = f x

abbrev pub bound : Grid → Axis → Side → List ℕ → Option ℤ
bound grid axis side text = result_ok (bound_of grid axis side text)

-- four numbers: west, south, east, north
abbrev pub bounds_of : Grid → List ℕ → List ℕ → List ℕ → List ℕ → Option Bounds
bounds_of grid west south east north = do
  west ← bound grid X Low west
  south ← bound grid Y Low south
  east ← bound grid X High east
  north ← bound grid Y High north
  Some (record { west = west; south = south; east = east; north = north })

-- what is behind so many commas
abbrev pub behind_comma : List ℕ → List ℕ
behind_comma text = behind 44 text

abbrev pub before_comma : List ℕ → List ℕ
before_comma text = front 44 text

abbrev pub box_of_four : Grid → List ℕ → Option Bounds
box_of_four grid text =
    let second = behind_comma text in let third = behind_comma second in
    bounds_of grid (before_comma text) (before_comma second) (before_comma third)
    (behind_comma third)

abbrev pub is_number : Grid → List ℕ → Bool
is_number grid text = is_some (bound grid X Low text)

-- six numbers: behind each corner a height, which is a number and counts for nothing
unfoldable pub bounds_of_six : Grid → List ℕ → List ℕ → List ℕ → List ℕ → List ℕ → List ℕ → Option Bounds
bounds_of_six grid west south east north lowest highest =
    if is_number grid lowest
    then (if is_number grid highest then bounds_of grid west south east north else None) else None

abbrev pub box_of_six : Grid → List ℕ → Option Bounds
box_of_six grid text =
    let second = behind_comma text in let third = behind_comma second in
    let fourth = behind_comma third in let fifth = behind_comma fourth in
    bounds_of_six grid (before_comma text) (before_comma second) (before_comma fourth)
    (before_comma fifth) (before_comma third) (behind_comma fifth)

-- four numbers or six
abbrev pub box_of : Grid → List ℕ → ℕ → Option Bounds
box_of grid text commas =
    if commas == 3 then box_of_four grid text
    else if commas == 5 then box_of_six grid text else None

unfoldable pub window_spelled : Grid → List ℕ → Option Window
window_spelled grid text = box_of grid text (count_by (λ b. b == 44) text) >>= window_of
