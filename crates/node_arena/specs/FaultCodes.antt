-- The codes of the faults.
use Rattle.std.specs.Prelude.{ℕ, List, codes}
use Rattle.node_arena.specs.declared.fault.ArenaFault.{ArenaFault}
use Rattle.node_arena.specs.declared.fault.ArenaFault.TheVariants.{Full, Memory}

-- the fault's code
abbrev pub code_of : ArenaFault → List ℕ
code_of Full = codes "A1"
code_of (Memory refused) = codes "A2"
