-- The file of a configuration. Its bytes may be known or not.
use Rattle.std.specs.Prelude.{◌≡◌, ◌<◌, ◌≤◌, ℕ, List, length, Option, IfSome, Result, Ok, Err}
use Rattle.configuration.specs.ConfigFaults.{Fails}
use Rattle.configuration.specs.Configs.{ConfigData, config_data, config_of}
use Rattle.configuration.specs.declared.config_faults.ConfigFault.{ConfigFault}
use Rattle.configuration.specs.declared.config_faults.ConfigFault.TheVariants.{Memory}
use Rattle.configuration.specs.declared.configs.Config.{Config}
use Rattle.configuration.specs.declared.files.FileFault.{FileFault}
use Rattle.configuration.specs.declared.files.FileFault.TheVariants as reasons
use Rattle.configuration.specs.declared.files.ReadFault.{ReadFault}
use Rattle.configuration.specs.declared.files.ReadFault.TheVariants.{NotOpened, Failed, TooLong}
use Rattle.configuration.specs.declared.files.TheConstants.{CONFIG_LIMIT}

-- the bytes are all that the file had left, if those are known
abbrev pub IsWhole : Option (List ℕ) → List ℕ → Type 0
IsWhole left bytes = IfSome left (λ text. bytes ≡ text)

-- why an open file cannot be read, by the bytes that it has left, if they are known: it is too
-- long. A read may fail on any file
abbrev pub IsReadFault : ReadFault → Option (List ℕ) → Type 0
IsReadFault (NotOpened failed) left = ⊥
IsReadFault (Failed failed) left = Unit {0}
IsReadFault TooLong left = IfSome left (λ text. CONFIG_LIMIT < length text)

-- why the bytes that a file had left were not read: out of memory, or the file cannot be read
abbrev pub IsUnread : Option (List ℕ) → FileFault → Type 0
IsUnread left (reasons.CannotRead fault) = IsReadFault fault left
IsUnread left (reasons.Config (Memory refused)) = Unit {0}
IsUnread left (reasons.Config _) = ⊥

-- a file of these bytes is not too long, and they spell this configuration
abbrev pub IsConfigText : ConfigData → List ℕ → Type 0
IsConfigText config text = (length text ≤ CONFIG_LIMIT) × (config_of text ≡ Ok config)

-- a file of these bytes is not too long, and this is their first fault. `Memory` can come with any
-- bytes
abbrev pub IsConfigFault : ConfigFault → List ℕ → Type 0
IsConfigFault (Memory refused) text = Unit {0}
IsConfigFault fault text = (length text ≤ CONFIG_LIMIT) × Fails fault (config_of text)

-- What an open file gives, by the bytes that it has left, if they are known.
abbrev pub FileGives : {A : Type 0} → Result (Config A) FileFault → Option (List ℕ) → Type 0
FileGives (Ok config) left = IfSome left (λ text. IsConfigText (config_data config) text)
FileGives (Err (reasons.CannotRead fault)) left = IsReadFault fault left
FileGives (Err (reasons.Config fault)) left = IfSome left (λ text. IsConfigFault fault text)
