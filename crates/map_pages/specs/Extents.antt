-- The extent of a grid, as of a collection (OGC API - Features, Part 1, section 7.13.2).
use Rattle.std.specs.Prelude.{ℕ, ℤ, List, ◌++◌, pos, ◌-ℤ◌, codes}
use Rattle.grid.specs.declared.grids.Axis.TheVariants.{X, Y}
use Rattle.grid.specs.declared.grids.Grid.{Grid}
use Rattle.grid.specs.Printing.{coordinate_text}
use Rattle.plane.specs.declared.point.TheConstants.{LIMIT}

unfoldable pub extent_head : List ℕ
extent_head = codes "{\"spatial\":{\"bbox\":[["

-- a corner of a grid: the point of this number on both axes
abbrev pub corner_text : Grid → ℤ → List ℕ
corner_text grid n = coordinate_text grid X n ++ codes "," ++ coordinate_text grid Y n

-- west, south, east and north of a grid
abbrev pub extent_text : Grid → List ℕ
extent_text grid =
    extent_head ++ corner_text grid (pos 0 -ℤ LIMIT) ++ codes "," ++ corner_text grid LIMIT
    ++ codes "]]}}"
