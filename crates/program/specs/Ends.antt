-- How the program ends.
use Rattle.std.specs.Prelude.{ℕ, List, [], ◌++◌, codes}
use Rattle.program.specs.declared.ends.Ended.{Ended}
use Rattle.program.specs.declared.ends.Ended.TheVariants.{Well, Failed, TurnedDown}
use Rattle.program.specs.declared.faults.ProgramFault.{ProgramFault}
use Rattle.program.specs.declared.faults.ProgramFault.TheVariants.{CannotRead, CannotBind, CannotConnect, CannotWrite, Words, Memory, Config, World, Run, Draw, Server, Talk}
use Rattle.configuration.specs.ConfigFaults.{config_code_of}
use Rattle.drawing.specs.Faults.{code_of as draw_code}
use Rattle.line_streams.specs.Faults.{serve_code_of}
use Rattle.line_streams.specs.declared.streams.ServeFault.{ServeFault}
use Rattle.line_streams.specs.declared.streams.ServeFault.TheVariants as reasons
use Rattle.plain_world.specs.FaultCodes.{fault_code}

-- how the program shows the fault by which a run of lines ended: a failed write is always
-- `CannotWrite`
abbrev pub program_fault : ServeFault → ProgramFault
program_fault (reasons.Write failed) = CannotWrite failed
program_fault fault = Run fault

-- the text shown for a fault: a phrase with the name after it if a file cannot be read, a socket
-- bound, or a server reached; a phrase if something cannot be written; else a code
abbrev pub fault_word : ProgramFault → List ℕ
fault_word (CannotRead name fault) = codes "cannot read "
fault_word (CannotBind path) = codes "cannot bind "
fault_word (CannotConnect path) = codes "cannot connect "
fault_word (CannotWrite failed) = codes "cannot write"
fault_word (Words refused) = codes "V4"
fault_word (Memory refused) = codes "V4"
fault_word (Config fault) = config_code_of fault
fault_word (World fault) = fault_code fault
fault_word (Run fault) = serve_code_of fault
fault_word (Draw fault) = draw_code fault
fault_word (Server code) = code.now
fault_word (Talk word) = word.now

abbrev pub fault_name : ProgramFault → List ℕ
fault_name (CannotRead name fault) = name.now
fault_name (CannotBind path) = path.now
fault_name (CannotConnect path) = path.now
fault_name _ = []

abbrev pub fault_text : ProgramFault → List ℕ
fault_text fault = fault_word fault ++ fault_name fault

-- the one line on standard error
abbrev pub fault_line : ProgramFault → List ℕ
fault_line fault = codes "landmap: " ++ fault_text fault ++ codes "\n"

-- the fault is that something cannot be written
abbrev pub IsUnwritten : ProgramFault → Type 0
IsUnwritten (CannotWrite failed) = Unit {0}
IsUnwritten _ = ⊥

-- The exit status of the program.
abbrev pub exit_status : Ended → ℕ
exit_status (Well flushed) = 0
exit_status (Failed fault line) = 1
exit_status TurnedDown = 2
