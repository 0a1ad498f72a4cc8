-- The codes of the faults.
use Rattle.std.specs.Prelude.{ℕ, List, codes}
use Rattle.predicate_locks.specs.declared.fault.LockFault.{LockFault}
use Rattle.predicate_locks.specs.declared.fault.LockFault.TheVariants.{TooMany, Spent, Memory}

-- the fault's code
abbrev pub code_of : LockFault → List ℕ
code_of TooMany = codes "L1"
code_of Spent = codes "L2"
code_of (Memory refused) = codes "L3"
