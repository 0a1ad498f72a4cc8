-- The codes of the causes.
use Rattle.std.specs.Prelude.{ℕ, List, codes}
use Rattle.grid.specs.FaultCodes.{code_of as number_fault_code}
use Rattle.geojson.specs.declared.faults.Cause.{Cause}
use Rattle.geojson.specs.declared.faults.Cause.TheVariants.{NotJson, Form, Kind, Number, Memory, Json}

abbrev pub code_of : Cause → List ℕ
code_of NotJson = codes "J1"
code_of Form = codes "J2"
code_of Kind = codes "J3"
code_of (Number fault) = number_fault_code fault
code_of (Memory no_memory) = codes "J4"
code_of (Json refused) = codes "J4"
