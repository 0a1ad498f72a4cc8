-- The codes of the faults.
use Rattle.std.specs.Prelude.{ℕ, List, codes}
use Rattle.map_questions.specs.declared.faults.AskingFault.{AskingFault}
use Rattle.map_questions.specs.declared.faults.AskingFault.TheVariants.{UnknownParameter, Twice, Value, Memory}

abbrev pub code_of : AskingFault → List ℕ
code_of UnknownParameter = codes "U2"
code_of (Twice parameter) = codes "U3"
code_of (Value parameter) = codes "U4"
code_of Memory = codes "memory"
