-- The faults that a run of a script can end with, and what is written then. They come in this
-- order: those of the configuration, that the script was not opened, those of the run. Memory may
-- run out, and a read may fail, at any time.
use Rattle.std.specs.Prelude.{◌≡◌, ℕ, List, [], Option, None, Some, IfSome, Result, Err}
use Rattle.std.specs.Io.KnownBytes.{Keeps}
use Rattle.plain_world.specs.States.{WorldData}
use Rattle.plain_world.specs.declared.faults.Fault.{Fault}
use Rattle.plain_world.specs.declared.faults.Fault.TheVariants as faults
use Rattle.scripts.specs.Scripts.{LineTells, script}
use Rattle.scripts.specs.States.{SessionState}
use Rattle.line_streams.specs.Streams.{NeverEnds, Ran}
use Rattle.byte_streams.specs.declared.writing.Flushed.{Flushed}
use Rattle.line_streams.specs.declared.streams.ServeFault.{ServeFault}
use Rattle.configuration.specs.ConfigFiles.{IsConfigFault, IsReadFault}
use Rattle.configuration.specs.Configs.{ConfigData}
use Rattle.program.specs.Ends.{program_fault}
use Rattle.program.specs.Runs.{IsConfigOf, world_of}
use Rattle.configuration.specs.declared.config_faults.ConfigFault.TheVariants.{Memory}
use Rattle.program.specs.declared.faults.ProgramFault.{ProgramFault}
use Rattle.configuration.specs.declared.files.ReadFault.TheVariants.{NotOpened}
use Rattle.program.specs.declared.faults.ProgramFault.TheVariants.{CannotRead, CannotWrite, Config, World, Run}

-- the fault is that the file of this name was not opened, and `closed` holds for the name
abbrev pub IsUnopened : (List ℕ → Type 0) → List ℕ → ProgramFault → Type 0
IsUnopened closed name (CannotRead told (NotOpened failed)) = (told.now ≡ name) × closed name
IsUnopened closed name _ = ⊥

-- a fault of the configuration; the built-in one can only run out of memory
abbrev pub IsOfConfig : (List ℕ → Option (List ℕ)) → (List ℕ → Type 0) → Option (List ℕ)
    → ProgramFault → Type 0
IsOfConfig held closed None (Config (Memory refused)) = Unit {0}
IsOfConfig held closed None _ = ⊥
IsOfConfig held closed (Some name) (Config fault) =
    IfSome (held name) (λ text. IsConfigFault fault text)
IsOfConfig held closed (Some name) (CannotRead told (NotOpened failed)) =
    (told.now ≡ name) × closed name
IsOfConfig held closed (Some name) (CannotRead told fault) =
    (told.now ≡ name) × IsReadFault fault (held name)
IsOfConfig held closed (Some name) _ = ⊥

-- how far a run over the world that a configuration opens came before it ended with `end`; a flush
-- of the output followed
pub record CameTo (config : ConfigData) (features : ℕ) (end : Result Flushed ServeFault)
    (input before after : Option (List ℕ)) : Type 0 where
  pub sessions : List SessionState
  pub last : WorldData
  pub left : Option (List ℕ)
  pub written : Option (List ℕ)
  pub ran : Ran (NeverEnds LineTells) end (script (world_of config features) [])
      (script last sessions) input left before written
  pub kept : Keeps written after

-- opening the world can only run out of memory
abbrev pub IsMemory : Fault → Type 0
IsMemory (faults.Memory refused) = Unit {0}
IsMemory _ = ⊥

-- A fault of the run. `World`: the world could not be opened. `CannotWrite`: a write or the final
-- flush failed, however far the run had come. `Run`: it ended with another fault.
abbrev pub IsOfRun : ConfigData → ℕ → Option (List ℕ) → Option (List ℕ) → Option (List ℕ)
    → ProgramFault → Type 0
IsOfRun config features input before after (World fault) = IsMemory fault × (after ≡ before)
IsOfRun config features input before after (CannotWrite failed) =
    (end : Result Flushed ServeFault) × CameTo config features end input before after
IsOfRun config features input before after (Run fault) =
    (program_fault fault ≡ Run fault) × CameTo config features (Err fault) input before after
IsOfRun config features input before after _ = ⊥

-- A run of the script in a named file ended with this fault. `held` gives what the file of a name
-- reads, if known; `closed` holds for each name whose file was not opened.
pub data BrokeOff (held : List ℕ → Option (List ℕ)) (closed : List ℕ
    → Type 0) (config : Option (List ℕ)) (features : ℕ) (script_name : List ℕ)
    (before after : Option (List ℕ)) (fault : ProgramFault) : Type 0 where
  -- there was no configuration
  unconfigured : IsOfConfig held closed config fault → after ≡ before
      → BrokeOff held closed config features script_name before after fault
  -- there was a configuration, but the script was not opened
  without_script : (configured : ConfigData) → IsConfigOf held config configured
      → IsUnopened closed script_name fault → after ≡ before
      → BrokeOff held closed config features script_name before after fault
  -- there were both
  in_run : (configured : ConfigData) → IsConfigOf held config configured
      → IsOfRun configured features (held script_name) before after fault
      → BrokeOff held closed config features script_name before after fault
