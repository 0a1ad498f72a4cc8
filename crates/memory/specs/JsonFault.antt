-- Why bytes are not read as a JSON value.
use Rattle.memory.specs.declared.json.JsonFault.{JsonFault}
use Rattle.memory.specs.declared.json.JsonFault.TheVariants.{Text, Memory}

-- the bytes are at fault, not memory
abbrev pub IsTextFault : JsonFault → Type 0
IsTextFault (Text error) = Unit {0}
IsTextFault (Memory refused) = ⊥
