-- The codes of the faults.
use Rattle.std.specs.Prelude.{ℕ, List, codes}
use Rattle.plane.specs.FaultCodes.{code_of as shape_fault_code}
use Rattle.wkt.specs.declared.fault.WktFault.{WktFault}
use Rattle.wkt.specs.declared.fault.WktFault.TheVariants.{UnknownWord, LeftOut, Syntax, Number, OutOfRange, Bad}

-- if the points make no shape, the code of their own fault
abbrev pub code_of : WktFault → List ℕ
code_of (UnknownWord at) = codes "K1"
code_of (LeftOut at) = codes "K2"
code_of (Syntax at) = codes "K3"
code_of (Number at) = codes "K4"
code_of (OutOfRange at) = codes "K5"
code_of (Bad fault) = shape_fault_code fault
