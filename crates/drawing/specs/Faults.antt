-- The codes of the faults.
use Rattle.std.specs.Prelude.{ℕ, List, codes}
use Rattle.line_streams.specs.declared.streams.ServeFault.{ServeFault}
use Rattle.line_streams.specs.declared.streams.ServeFault.TheVariants as runs
use Rattle.drawing.specs.declared.faults.DrawFault.{DrawFault}
use Rattle.drawing.specs.declared.faults.DrawFault.TheVariants as faults

abbrev pub code_of : DrawFault → List ℕ
code_of (faults.Read failed) = codes "V1"
code_of (faults.Write failed) = codes "V2"
code_of (faults.TooManyTurns turns) = codes "V3"
code_of (faults.Memory refused) = codes "V4"
code_of faults.TooManyMarks = codes "G1"

-- the fault of a run of lines
abbrev pub fault_of : ServeFault → DrawFault
fault_of (runs.Read failed) = faults.Read failed
fault_of (runs.Write failed) = faults.Write failed
fault_of (runs.TooManyTurns turns) = faults.TooManyTurns turns
fault_of (runs.Memory refused) = faults.Memory refused
