-- The value of a refused growth.
use Rattle.memory.specs.declared.no_memory.NoMemory.{NoMemory}

-- the only value of its type
abbrev pub out_of_memory : NoMemory
out_of_memory = record { seal = tt }
