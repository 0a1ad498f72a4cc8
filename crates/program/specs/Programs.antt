-- What a run of the program writes and returns.
use Rattle.std.specs.Prelude.{◌≡◌, ℕ, true, List, Option, None, Some, IfSome, Result, Ok, Err, codes, option_map}
use Rattle.byte_streams.specs.Written.{Took}
use Rattle.command_line.specs.Asking.{GoesOn, HasExport, HasImport, HasOptions, HasStore, IsUpTo}
use Rattle.command_line.specs.CommandLine.{AreTurnedDown, AskFor, AskForHelp, given_by, is_name_at, number_at, waits_at}
use Rattle.command_line.specs.Http.{IsHttpAt}
use Rattle.command_line.specs.declared.options.TheConstants.{HTTP_WORKER_LIMIT}
use Rattle.configuration.specs.Configs.{ConfigData, config_data, grid_data}
use Rattle.program.specs.Checks.{AskForPage, DrawBroke, IsDrawn, IsFoundRight, IsWritten, LookBroke, PageBroke}
use Rattle.program.specs.Ends.{IsUnwritten, fault_line}
use Rattle.program.specs.RunFaults.{BrokeOff, IsOfConfig}
use Rattle.program.specs.Runs.{IsConfigOf, RanScript, features_asked}
use Rattle.program.specs.declared.runs.Answer.{Answer}
use Rattle.program.specs.declared.runs.Answer.TheVariants as answers
use Rattle.program.specs.declared.ends.Ended.{Ended}
use Rattle.program.specs.declared.ends.Ended.TheVariants.{Well, Failed, TurnedDown}
use Rattle.program.specs.declared.ends.Next.{Next}
use Rattle.program.specs.declared.ends.Next.TheVariants as next
use Rattle.grid.specs.declared.grids.Grid.{Grid}
use Rattle.program.specs.declared.ends.TransferWords.{TransferWords}
use Rattle.program.specs.declared.ends.TransferWords.TheVariants as transfers
use Rattle.program.specs.declared.ends.WantedScript.{WantedScript}
use Rattle.program.specs.declared.ends.WantedServer.{WantedServer}
use Rattle.program.specs.declared.ends.WantedTransfer.{WantedTransfer}
use Rattle.program.specs.declared.faults.ProgramFault.{ProgramFault}
use Rattle.program.specs.declared.faults.ProgramFault.TheVariants.{Words}
use Rattle.command_line.specs.declared.commands.NoMemoryForWords.{NoMemoryForWords}
use Rattle.command_line.specs.declared.shells.Shell.{Shell}
use Rattle.command_line.specs.declared.words.ScriptWords.{ScriptWords}
use Rattle.command_line.specs.declared.words.ServeWords.{ServeWords}
use Rattle.command_line.specs.declared.stores.StoreWords.{StoreWords}

-- the most features that there may be, by the words
abbrev pub features_of : List (List ℕ) → ℕ
features_of words = features_asked (number_at (given_by words) (codes "features"))

-- What these words ask for is done. `held` gives what the file of a name reads, if known.
pub data IsDone (words : List (List ℕ)) (held : List ℕ
    → Option (List ℕ)) (before after : Option (List ℕ)) : Type 0 where
  -- they ask for a script without a store, and it was served
  serves : (script : List ℕ) → AskFor (codes "script") words
      → given_by words (codes "FILE") ≡ Some script → given_by words (codes "store") ≡ None
      → RanScript held (given_by words (codes "config")) (features_of words) script before after
      → IsDone words held before after
  -- they ask for a look at a configuration, and it is right
  checks : (name : List ℕ) → AskFor (codes "check") words
      → given_by words (codes "config") ≡ Some name → IsFoundRight (held name) before after
      → IsDone words held before after
  -- they ask for a drawing, and it was made
  draws : (name : List ℕ) → AskFor (codes "draw") words
      → given_by words (codes "SCRIPT") ≡ Some name → IsDrawn held name before after
      → IsDone words held before after
  -- they ask for a page, and it was printed
  prints : (shell : Option Shell) → AskForPage words shell → IsWritten shell before after
      → IsDone words held before after
  -- they ask for help
  helps : AskForHelp words → IsDone words held before after

-- these words ask for this export, or for this import
abbrev pub AskForTransfer : List (List ℕ) → TransferWords → Type 0
AskForTransfer words (transfers.Export given) =
    AskFor (codes "export") words × HasExport (given_by words) given
AskForTransfer words (transfers.Import given) =
    AskFor (codes "import") words × HasImport (given_by words) given × GoesOn given

-- Why a run of the program with these words ended with a fault. `closed` holds for each name whose
-- file was not opened. Running out of memory for the command line can happen with any words.
pub data IsFault (words : List (List ℕ)) (held : List ℕ → Option (List ℕ)) (closed : List ℕ
    → Type 0) (before after : Option (List ℕ)) : ProgramFault → Type 0 where
  -- they ask for a script, and its run broke off
  script : (name : List ℕ) (fault : ProgramFault) → AskFor (codes "script") words
      → given_by words (codes "FILE") ≡ Some name
      → BrokeOff held closed (given_by words (codes "config")) (features_of words) name before after
      fault
      → IsFault words held closed before after fault
  -- they ask for a server, but there is no configuration
  no_server : (fault : ProgramFault) → AskFor (codes "serve") words
      → IsOfConfig held closed (given_by words (codes "config")) fault → after ≡ before
      → IsFault words held closed before after fault
  -- they ask for a look at a configuration, and it is wrong, or was not looked at
  check : (name : List ℕ) (fault : ProgramFault) → AskFor (codes "check") words
      → given_by words (codes "config") ≡ Some name
      → LookBroke held closed name before after fault → IsFault words held closed before after fault
  -- they ask for a drawing, but it was not made
  undrawn : (name : List ℕ) (fault : ProgramFault) → AskFor (codes "draw") words
      → given_by words (codes "SCRIPT") ≡ Some name
      → DrawBroke held closed name before after fault → IsFault words held closed before after fault
  -- they ask for an export or an import, but there is no such configuration
  no_grid : (given : TransferWords) (fault : ProgramFault) → AskForTransfer words given
      → IsOfConfig held closed (given_by words (codes "config")) fault → after ≡ before
      → IsFault words held closed before after fault
  -- they ask for a page, but it could not be printed
  unprinted : (shell : Option Shell) (fault : ProgramFault) → AskForPage words shell
      → PageBroke shell before after fault → IsFault words held closed before after fault
  -- they ask for help, but it could not be written
  help : (fault : ProgramFault) → AskForHelp words → IsUnwritten fault
      → IsFault words held closed before after fault
  unread : (refused : NoMemoryForWords) → after ≡ before
      → IsFault words held closed before after (Words refused)

-- These words ask for this server: its options are theirs, and its configuration is the built-in
-- one or that of the file that they name.
pub record WantServer (words : List (List ℕ)) (held : List ℕ
    → Option (List ℕ)) (server : WantedServer) : Type 0 where
  pub asked : AskFor (codes "serve") words
  pub options : HasOptions (given_by words) server.options
  pub config : IsConfigOf held (given_by words (codes "config")) (config_data server.config)
  pub store : given_by words (codes "store") ≡ option_map (λ name. name.now) server.store
  pub waits : waits_at (given_by words) (codes "wait") ≡ Some server.waits
  pub http : IsHttpAt (given_by words) server.http
  pub http_workers : server.http_workers ≡ number_at (given_by words) (codes "http-workers")
  pub http_workers_fit : IfSome server.http_workers (IsUpTo HTTP_WORKER_LIMIT)
  pub features : server.features.number ≡ features_of words

-- These words ask for this script over a store: file and folder are theirs, and its configuration is
-- the built-in one or that of the file that they name.
pub record WantKept (words : List (List ℕ)) (held : List ℕ
    → Option (List ℕ)) (wanted : WantedScript) : Type 0 where
  pub asked : AskFor (codes "script") words
  pub script : given_by words (codes "FILE") ≡ Some wanted.script.now
  pub folder : given_by words (codes "store") ≡ Some wanted.folder.now
  pub config : IsConfigOf held (given_by words (codes "config")) (config_data wanted.config)
  pub features : wanted.features.number ≡ features_of words

-- these words ask for this look at a store
abbrev pub WantLook : List (List ℕ) → StoreWords → Type 0
WantLook words given = AskFor (codes "store") words × HasStore (given_by words) given

-- these words ask for a secret for this subject
abbrev pub WantSecret : List (List ℕ) → List ℕ → Type 0
WantSecret words subject =
    AskFor (codes "secret") words × (given_by words (codes "NAME") ≡ Some subject)
    × (is_name_at (given_by words) (codes "NAME") ≡ true)

-- these words ask for a talk with the server at this path
abbrev pub WantTalk : List (List ℕ) → List ℕ → Type 0
WantTalk words path = AskFor (codes "connect") words × (given_by words (codes "socket") ≡ Some path)

-- the grid of the configuration in the named file, if one is named and has a grid
abbrev pub IsGridIn : (List ℕ → Option (List ℕ)) → Option (List ℕ) → Option Grid → Type 0
IsGridIn held None grid = grid ≡ None
IsGridIn held (Some name) grid = (config : ConfigData) × IsConfigOf held (Some name) config
    × (option_map grid_data grid ≡ config.grid)

-- these words ask for this export or import, with the grid of the configuration that they name
abbrev pub WantTransfer : List (List ℕ) → (List ℕ → Option (List ℕ)) → WantedTransfer → Type 0
WantTransfer words held wanted = AskForTransfer words wanted.words
    × IsGridIn held (given_by words (codes "config")) wanted.grid

-- this server has the given options and their configuration
abbrev pub IsServerOf : (List ℕ → Option (List ℕ)) → ServeWords → WantedServer → Type 0
IsServerOf held given server =
    (server.options ≡ given.options)
    × IsConfigOf held (option_map (λ name. name.now) given.config) (config_data server.config)
    × (server.store ≡ given.store) × (server.waits ≡ given.waits) × (server.http ≡ given.http)
    × (server.http_workers ≡ given.http_workers)
    × (server.features.number ≡ features_asked given.features)

abbrev pub IsServerFault : (List ℕ → Option (List ℕ)) → (List ℕ → Type 0) → ServeWords
    → ProgramFault → Type 0
IsServerFault held closed given fault =
    IsOfConfig held closed (option_map (λ name. name.now) given.config) fault

-- what is answered where a configuration is looked at, a script drawn, and a page printed
abbrev pub LookAnswered : (List ℕ → Option (List ℕ)) → (List ℕ → Type 0) → List ℕ → Option (List ℕ)
    → Option (List ℕ) → Result Answer ProgramFault → Type 0
LookAnswered held closed name before after (Ok (answers.Done flushed)) =
    IsFoundRight (held name) before after
LookAnswered held closed name before after (Err fault) =
    LookBroke held closed name before after fault
LookAnswered held closed name before after (Ok (answers.Serve server)) = ⊥
LookAnswered held closed name before after (Ok (answers.Connect path)) = ⊥
LookAnswered held closed name before after (Ok (answers.Keep wanted)) = ⊥
LookAnswered held closed name before after (Ok (answers.Look given)) = ⊥
LookAnswered held closed name before after (Ok (answers.Secret subject)) = ⊥
LookAnswered held closed name before after (Ok (answers.Transfer wanted)) = ⊥
LookAnswered held closed name before after (Ok (answers.Mistaken mistake)) = ⊥

abbrev pub DrawAnswered : (List ℕ → Option (List ℕ)) → (List ℕ → Type 0) → List ℕ → Option (List ℕ)
    → Option (List ℕ) → Result Answer ProgramFault → Type 0
DrawAnswered held closed name before after (Ok (answers.Done flushed)) =
    IsDrawn held name before after
DrawAnswered held closed name before after (Err fault) =
    DrawBroke held closed name before after fault
DrawAnswered held closed name before after (Ok (answers.Serve server)) = ⊥
DrawAnswered held closed name before after (Ok (answers.Connect path)) = ⊥
DrawAnswered held closed name before after (Ok (answers.Keep wanted)) = ⊥
DrawAnswered held closed name before after (Ok (answers.Look given)) = ⊥
DrawAnswered held closed name before after (Ok (answers.Secret subject)) = ⊥
DrawAnswered held closed name before after (Ok (answers.Transfer wanted)) = ⊥
DrawAnswered held closed name before after (Ok (answers.Mistaken mistake)) = ⊥

abbrev pub PageAnswered : Option Shell → Option (List ℕ) → Option (List ℕ)
    → Result Answer ProgramFault → Type 0
PageAnswered shell before after (Ok (answers.Done flushed)) = IsWritten shell before after
PageAnswered shell before after (Err fault) = PageBroke shell before after fault
PageAnswered shell before after (Ok (answers.Serve server)) = ⊥
PageAnswered shell before after (Ok (answers.Connect path)) = ⊥
PageAnswered shell before after (Ok (answers.Keep wanted)) = ⊥
PageAnswered shell before after (Ok (answers.Look given)) = ⊥
PageAnswered shell before after (Ok (answers.Secret subject)) = ⊥
PageAnswered shell before after (Ok (answers.Transfer wanted)) = ⊥
PageAnswered shell before after (Ok (answers.Mistaken mistake)) = ⊥

-- What is answered where the words ask for a script: it was served, or its run broke off; or, where
-- it has a store, nothing is done yet, or its configuration is at fault.
abbrev pub ScriptAnswered : {O : Type 0} → (List ℕ → Option (List ℕ)) → (List ℕ → Type 0)
    → ScriptWords → (O → Option (List ℕ)) → O → O → Result Answer ProgramFault → Type 0
ScriptAnswered held closed files written output output_after (Ok (answers.Done flushed)) =
    (files.store ≡ None) × RanScript held (option_map (λ name. name.now) files.config)
    (features_asked files.features) files.script.now (written output) (written output_after)
ScriptAnswered held closed files written output output_after (Ok (answers.Keep wanted)) =
    (files.script.now ≡ wanted.script.now)
    × (option_map (λ name. name.now) files.store ≡ Some wanted.folder.now)
    × IsConfigOf held (option_map (λ name. name.now) files.config) (config_data wanted.config)
    × (wanted.features.number ≡ features_asked files.features) × (output_after ≡ output)
ScriptAnswered held closed files written output output_after (Err fault) =
    BrokeOff held closed (option_map (λ name. name.now) files.config) (features_asked files.features)
    files.script.now (written output) (written output_after) fault
ScriptAnswered held closed files written output output_after (Ok (answers.Serve server)) = ⊥
ScriptAnswered held closed files written output output_after (Ok (answers.Connect path)) = ⊥
ScriptAnswered held closed files written output output_after (Ok (answers.Look given)) = ⊥
ScriptAnswered held closed files written output output_after (Ok (answers.Secret subject)) = ⊥
ScriptAnswered held closed files written output output_after (Ok (answers.Transfer wanted)) = ⊥
ScriptAnswered held closed files written output output_after (Ok (answers.Mistaken mistake)) = ⊥

-- what is answered where the words ask for an export or an import
abbrev pub TransferAnswered : (List ℕ → Option (List ℕ)) → (List ℕ → Type 0) → TransferWords
    → Option (List ℕ) → Result Answer ProgramFault → Type 0
TransferAnswered held closed given config (Ok (answers.Transfer wanted)) =
    (wanted.words ≡ given) × IsGridIn held config wanted.grid
TransferAnswered held closed given config (Err fault) = IsOfConfig held closed config fault
TransferAnswered held closed given config (Ok (answers.Done flushed)) = ⊥
TransferAnswered held closed given config (Ok (answers.Serve server)) = ⊥
TransferAnswered held closed given config (Ok (answers.Connect path)) = ⊥
TransferAnswered held closed given config (Ok (answers.Keep kept)) = ⊥
TransferAnswered held closed given config (Ok (answers.Look look)) = ⊥
TransferAnswered held closed given config (Ok (answers.Secret subject)) = ⊥
TransferAnswered held closed given config (Ok (answers.Mistaken mistake)) = ⊥

-- The result of these words, before anything is written to standard error: what they ask for is
-- done; or nothing is done, because they ask for a server, a talk, a store, a secret, an export or an
-- import, or clap rejects them; or there was a fault.
abbrev pub IsAnswer : {O : Type 0} → List (List ℕ) → (List ℕ → Option (List ℕ)) → (List ℕ → Type 0)
    → (O → Option (List ℕ)) → O → O → Result Answer ProgramFault → Type 0
IsAnswer words held closed written output output_after (Ok (answers.Done flushed)) =
    IsDone words held (written output) (written output_after)
IsAnswer words held closed written output output_after (Ok (answers.Serve server)) =
    WantServer words held server × (output_after ≡ output)
IsAnswer words held closed written output output_after (Ok (answers.Connect path)) =
    WantTalk words path.now × (output_after ≡ output)
IsAnswer words held closed written output output_after (Ok (answers.Keep wanted)) =
    WantKept words held wanted × (output_after ≡ output)
IsAnswer words held closed written output output_after (Ok (answers.Look given)) =
    WantLook words given × (output_after ≡ output)
IsAnswer words held closed written output output_after (Ok (answers.Secret subject)) =
    WantSecret words subject.now × (output_after ≡ output)
IsAnswer words held closed written output output_after (Ok (answers.Transfer wanted)) =
    WantTransfer words held wanted × (output_after ≡ output)
IsAnswer words held closed written output output_after (Ok (answers.Mistaken mistake)) =
    AreTurnedDown words × (output_after ≡ output)
IsAnswer words held closed written output output_after (Err fault) =
    IsFault words held closed (written output) (written output_after) fault

-- What a run of the program with these words writes, by how it ended. After success, standard error
-- is unchanged; after a fault, it has the fault's line, or a prefix of the line if a write failed.
abbrev pub IsRun : {O E : Type 0} → List (List ℕ) → (List ℕ → Option (List ℕ)) → (List ℕ → Type 0)
    → (O → Option (List ℕ)) → O → O → (E → Option (List ℕ)) → E → E → Ended → Type 0
IsRun words held closed written output output_after told errors errors_after (Well flushed) =
    IsDone words held (written output) (written output_after) × (errors_after ≡ errors)
IsRun words held closed written output output_after told errors errors_after (Failed fault line) =
    IsFault words held closed (written output) (written output_after) fault
    × Took line (told errors) (told errors_after) (fault_line fault)
IsRun words held closed written output output_after told errors errors_after TurnedDown =
    AreTurnedDown words × (output_after ≡ output)

-- What is left to do after a run of the program with these words: exit, since the run has ended; or
-- run the server, talk with the one, run a script over a store or look at one, make a secret, or
-- export or import, as the words ask. In all cases but the first nothing was written.
abbrev pub IsNext : {O E : Type 0} → List (List ℕ) → (List ℕ → Option (List ℕ)) → (List ℕ → Type 0)
    → (O → Option (List ℕ)) → O → O → (E → Option (List ℕ)) → E → E → Next → Type 0
IsNext words held closed written output output_after told errors errors_after (next.Exit ended) =
    IsRun words held closed written output output_after told errors errors_after ended
IsNext words held closed written output output_after told errors errors_after (next.Serve server) =
    WantServer words held server × (output_after ≡ output) × (errors_after ≡ errors)
IsNext words held closed written output output_after told errors errors_after (next.Connect path) =
    WantTalk words path.now × (output_after ≡ output) × (errors_after ≡ errors)
IsNext words held closed written output output_after told errors errors_after (next.Keep wanted) =
    WantKept words held wanted × (output_after ≡ output) × (errors_after ≡ errors)
IsNext words held closed written output output_after told errors errors_after (next.Look given) =
    WantLook words given × (output_after ≡ output) × (errors_after ≡ errors)
IsNext words held closed written output output_after told errors errors_after (next.Secret subject) =
    WantSecret words subject.now × (output_after ≡ output) × (errors_after ≡ errors)
IsNext words held closed written output output_after told errors errors_after (next.Transfer wanted) =
    WantTransfer words held wanted × (output_after ≡ output) × (errors_after ≡ errors)
