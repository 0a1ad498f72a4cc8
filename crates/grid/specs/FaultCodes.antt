-- The codes of the faults.
use Rattle.std.specs.Prelude.{ℕ, List, codes}
use Rattle.grid.specs.declared.faults.NumberFault.{NumberFault}
use Rattle.grid.specs.declared.faults.NumberFault.TheVariants.{NotANumber, Between, Beyond}

abbrev pub code_of : NumberFault → List ℕ
code_of NotANumber = codes "G1"
code_of Between = codes "G2"
code_of Beyond = codes "G3"
