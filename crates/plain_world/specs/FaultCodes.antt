-- The codes of the faults.
use Rattle.std.specs.Prelude.{ℕ, List, codes}
use Rattle.plain_world.specs.declared.faults.Fault.{Fault}
use Rattle.plain_world.specs.declared.faults.Fault.TheVariants as faults
use Rattle.tree_answers.specs.Faults.{code_of}

-- a fault of the index has the index's own code
abbrev pub fault_code : Fault → List ℕ
fault_code faults.NoSuch = codes "X1"
fault_code faults.NotYours = codes "X2"
fault_code faults.NotReady = codes "X3"
fault_code faults.NotPlaced = codes "X4"
fault_code faults.NamedTwice = codes "X5"
fault_code faults.TooManyChanges = codes "X6"
fault_code faults.NotSteward = codes "X7"
fault_code faults.Spent = codes "X8"
fault_code (faults.Tree fault) = code_of fault
fault_code faults.TrailFull = codes "X10"
fault_code faults.StoreFull = codes "X11"
fault_code (faults.Memory refused) = codes "X12"
fault_code faults.NoSubject = codes "X13"
fault_code faults.NoPlace = codes "X14"
fault_code faults.TooMany = codes "X15"
