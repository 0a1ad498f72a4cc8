-- When a line has no segments, and the codes of the faults.
use Rattle.std.specs.Prelude.{◌≡◌, ℕ, ◌<◌, false, List, [], length, codes}
use Rattle.std.specs.List.{list_all}
use Rattle.plane.specs.Points.{is_in_range}
use Rattle.plane.specs.declared.point.Point.{Point}
use Rattle.convex_parts.specs.Lines.{steps_of}
use Rattle.convex_parts.specs.declared.faults.PartsFault.{PartsFault}
use Rattle.convex_parts.specs.declared.faults.PartsFault.TheVariants.{OutOfRange, TooManyPoints, TooFew, NotClosed, Repeated, Flat, Crossing, HoleOutside, TooManyParts, Memory}
use Rattle.convex_parts.specs.declared.faults.TheConstants.{PART_LIMIT}

abbrev pub code_of : PartsFault → List ℕ
code_of OutOfRange = codes "P1"
code_of TooManyPoints = codes "P3"
code_of TooFew = codes "P4"
code_of NotClosed = codes "P5"
code_of Repeated = codes "P6"
code_of Flat = codes "P7"
code_of Crossing = codes "L1"
code_of HoleOutside = codes "L2"
code_of TooManyParts = codes "L3"
code_of (Memory no_memory) = codes "memory"

-- why a line has no segments
abbrev pub IsLineFault : List Point → PartsFault → Type 0
IsLineFault line OutOfRange = list_all is_in_range line ≡ false
IsLineFault line TooFew = steps_of line ≡ []
IsLineFault line TooManyParts = PART_LIMIT < length (steps_of line)
IsLineFault line (Memory no_memory) = Unit {0}
IsLineFault line _ = ⊥
