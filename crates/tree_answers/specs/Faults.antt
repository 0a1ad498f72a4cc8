use Rattle.std.specs.Prelude.{ℕ, List, codes}
use Rattle.tree_answers.specs.declared.fault.TreeFault.{TreeFault}
use Rattle.tree_answers.specs.declared.fault.TreeFault.TheVariants.{NoSearch, TooMany, Held, Full, TooHigh, Spent, Overrun, Memory}

-- the fault's code
abbrev pub code_of : TreeFault → List ℕ
code_of NoSearch = codes "S1"
code_of TooMany = codes "S2"
code_of (Held search) = codes "S3"
code_of Full = codes "S4"
code_of TooHigh = codes "S5"
code_of Spent = codes "S6"
code_of Overrun = codes "S7"
code_of (Memory refused) = codes "S8"
