-- The codes of the faults.
use Rattle.std.specs.Prelude.{ℕ, List, codes}
use Rattle.map_asks.specs.declared.faults.AskFault.{AskFault}
use Rattle.map_asks.specs.declared.faults.AskFault.TheVariants.{NoPage, UnknownParameter, Twice, Value, Apart}

abbrev pub code_of : AskFault → List ℕ
code_of NoPage = codes "U1"
code_of UnknownParameter = codes "U2"
code_of (Twice parameter) = codes "U3"
code_of (Value parameter) = codes "U4"
code_of Apart = codes "U5"
