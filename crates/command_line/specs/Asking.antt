-- What the words of a command line ask for.
use Rattle.std.specs.Prelude.{◌≡◌, ◌≤◌, ◌⊎◌, ◌||◌, ℕ, true, false, is_some, List, [], IfSome, Option, Some, codes, None, option_and_then, option_map, unwrap_or}
use Rattle.clap.specs.Words.{IsAmong, Row, Text, kind_of, subcommand_of, subcommand_rows_of}
use Rattle.command_line.specs.CommandLine.{AreTurnedDown, AskFor, AskForHelp, command_line, action_at, flag_at, format_at, given_by, is_name_at, number_at, refusals, shell_at, shell_named, waits_at}
use Rattle.command_line.specs.Http.{IsHttpAt, IsHttpFault}
use Rattle.command_line.specs.declared.commands.Reading.{Reading}
use Rattle.command_line.specs.declared.commands.Reading.TheVariants.{Given, Told}
use Rattle.command_line.specs.declared.options.ServerOptions.{ServerOptions}
use Rattle.command_line.specs.declared.options.TheConstants.{CONNECTION_LIMIT, DEFAULT_WORKERS, FEATURE_LIMIT, FIRST_ID_LIMIT, HTTP_WORKER_LIMIT, IDLE_LIMIT, WORKER_LIMIT}
use Rattle.command_line.specs.declared.stores.StoreWords.{StoreWords}
use Rattle.command_line.specs.declared.transfers.ExportWords.{ExportWords}
use Rattle.command_line.specs.declared.transfers.ImportWords.{ImportWords}
use Rattle.command_line.specs.declared.words.Asked.{Asked}
use Rattle.command_line.specs.declared.words.Asked.TheVariants.{Check, Completions, Connect, Draw, Export, Help, Import, Man, Mistake, Script, Secret, Serve, Store}
use Rattle.command_line.specs.declared.words.ScriptWords.{ScriptWords}
use Rattle.command_line.specs.declared.words.ServeWords.{ServeWords}

-- clap accepts the words, and has the rows of their subcommand; or it has a text for one of its
-- reasons
abbrev pub IsReading : List (List ℕ) → Reading → Type 0
IsReading words (Given matches) =
    (refusals words ≡ []) × (subcommand_rows_of matches ≡ subcommand_of command_line words)
IsReading words (Told text) = IsAmong (kind_of text) (refusals words)

-- clap accepts some words that name this subcommand and give it these rows
abbrev pub IsGiven : Text → List Row → Type 0
IsGiven name rows = (words : List Text) × (refusals words ≡ [])
    × (subcommand_of command_line words ≡ Some (name, rows))

-- a number from 1 to `most`
abbrev pub IsUpTo : ℕ → ℕ → Type 0
IsUpTo most n = (1 ≤ n) × (n ≤ most)

-- the options of a server are the given ones, within their limits
pub record HasOptions (given : Text → Option Text) (options : ServerOptions) : Type 0 where
  pub socket : given (codes "socket") ≡ Some options.socket.now
  pub connections : options.connections ≡ number_at given (codes "connections")
  pub workers : options.workers ≡ unwrap_or (number_at given (codes "workers")) DEFAULT_WORKERS
  pub idle : options.idle_seconds ≡ number_at given (codes "idle")
  pub takeover : options.takeover ≡ flag_at given (codes "takeover")
  pub until_stdin_ends : options.until_stdin_ends ≡ flag_at given (codes "until-stdin-ends")
  pub connections_fit : IfSome options.connections (IsUpTo CONNECTION_LIMIT)
  pub workers_fit : IsUpTo WORKER_LIMIT options.workers
  pub idle_fits : IfSome options.idle_seconds (IsUpTo IDLE_LIMIT)

-- the files of a script, the folder of its store, and the most features
pub record HasFiles (given : Text → Option Text) (files : ScriptWords) : Type 0 where
  pub script : given (codes "FILE") ≡ Some files.script.now
  pub config : given (codes "config") ≡ option_map (λ name. name.now) files.config
  pub store : given (codes "store") ≡ option_map (λ name. name.now) files.store
  pub features : files.features ≡ number_at given (codes "features")
  pub features_fit : IfSome files.features (IsUpTo FEATURE_LIMIT)

-- the options of a server, its configuration's file, the folder of its store, for which records its
-- replies wait, where it answers HTTP and by how many workers, and the most features
pub record HasServer (given : Text → Option Text) (server : ServeWords) : Type 0 where
  pub options : HasOptions given server.options
  pub config : given (codes "config") ≡ option_map (λ name. name.now) server.config
  pub store : given (codes "store") ≡ option_map (λ name. name.now) server.store
  pub waits : waits_at given (codes "wait") ≡ Some server.waits
  pub http : IsHttpAt given server.http
  pub http_workers : server.http_workers ≡ number_at given (codes "http-workers")
  pub http_workers_fit : IfSome server.http_workers (IsUpTo HTTP_WORKER_LIMIT)
  pub features : server.features ≡ number_at given (codes "features")
  pub features_fit : IfSome server.features (IsUpTo FEATURE_LIMIT)

-- what is asked of a store: what is done, its folder, and whether features are meant
pub record HasStore (given : Text → Option Text) (words : StoreWords) : Type 0 where
  pub action : action_at given (codes "ACTION") ≡ Some words.action
  pub folder : given (codes "DIR") ≡ Some words.folder.now
  pub features : words.features ≡ flag_at given (codes "features")

-- what an export is given: a server, a subject and a form, and perhaps a window, a class and a
-- configuration's file
pub record HasExport (given : Text → Option Text) (words : ExportWords) : Type 0 where
  pub socket : given (codes "socket") ≡ Some words.socket.now
  pub subject : given (codes "as") ≡ Some words.subject.now
  pub window : given (codes "window") ≡ option_map (λ text. text.now) words.window
  pub class : given (codes "class") ≡ option_map (λ text. text.now) words.class
  pub config : given (codes "config") ≡ option_map (λ text. text.now) words.config
  pub format : format_at given (codes "format") ≡ Some words.format

-- what an import is given: a subject and a file, and perhaps a server, a class, a first id within
-- its limit, flags, and a configuration's file
pub record HasImport (given : Text → Option Text) (words : ImportWords) : Type 0 where
  pub file : given (codes "FILE") ≡ Some words.file.now
  pub subject : given (codes "as") ≡ Some words.subject.now
  pub socket : given (codes "socket") ≡ option_map (λ text. text.now) words.socket
  pub class : given (codes "class") ≡ option_map (λ text. text.now) words.class
  pub config : given (codes "config") ≡ option_map (λ text. text.now) words.config
  pub first_id : words.first_id ≡ number_at given (codes "first-id")
  pub first_id_fits : IfSome words.first_id (IsUpTo FIRST_ID_LIMIT)
  pub whole : words.whole ≡ flag_at given (codes "whole")
  pub split : words.split ≡ flag_at given (codes "split")
  pub script : words.script ≡ flag_at given (codes "script")

-- an export, or nothing, since there is no form of the name that is given
abbrev pub IsAskedExport : (Text → Option Text) → Asked → Type 0
IsAskedExport given (Export words) = HasExport given words
IsAskedExport given (Mistake text) = format_at given (codes "format") ≡ None
IsAskedExport given _ = ⊥

-- an import goes to a server or into a script
abbrev pub GoesOn : ImportWords → Type 0
GoesOn words = (is_some words.socket || words.script) ≡ true

-- an import, or nothing, since it would go neither to a server nor into a script
abbrev pub IsAskedImport : (Text → Option Text) → Asked → Type 0
IsAskedImport given (Import words) = HasImport given words × GoesOn words
IsAskedImport given (Mistake text) =
    (given (codes "socket") ≡ None) × (flag_at given (codes "script") ≡ false)
IsAskedImport given _ = ⊥

-- a server, or nothing, since its replies would wait for what there is not, or HTTP cannot be
-- answered as is said
abbrev pub IsAskedServer : (Text → Option Text) → Asked → Type 0
IsAskedServer given (Serve words) = HasServer given words
IsAskedServer given (Mistake text) = (waits_at given (codes "wait") ≡ None) ⊎ IsHttpFault given
IsAskedServer given _ = ⊥

-- a look at a store, or nothing, since nothing of the name that is given is done with one
abbrev pub IsAskedStore : (Text → Option Text) → Asked → Type 0
IsAskedStore given (Store words) = HasStore given words
IsAskedStore given (Mistake text) = action_at given (codes "ACTION") ≡ None
IsAskedStore given _ = ⊥

-- a secret for the name that is given, or nothing, since it is none
abbrev pub IsAskedSecret : (Text → Option Text) → Asked → Type 0
IsAskedSecret given (Secret name) =
    (given (codes "NAME") ≡ Some name.now) × (is_name_at given (codes "NAME") ≡ true)
IsAskedSecret given (Mistake text) = is_name_at given (codes "NAME") ≡ false
IsAskedSecret given _ = ⊥

-- completions for the shell that is given, or nothing, since there are none for it
abbrev pub IsAskedShell : Option Text → Asked → Type 0
IsAskedShell given (Completions shell) = option_and_then shell_named given ≡ Some shell
IsAskedShell given (Mistake text) = option_and_then shell_named given ≡ None
IsAskedShell given _ = ⊥

-- a script of these files; this server; a talk with the server at this path; a look at the
-- configuration in this file; a drawing of the script in this file; this export; this import; this
-- look at a store; a secret for this name; the manual page; completions for this shell; help; or
-- nothing, since the words are wrong
abbrev pub IsAsked : List (List ℕ) → Asked → Type 0
IsAsked words (Script files) = AskFor (codes "script") words × HasFiles (given_by words) files
IsAsked words (Serve server) = AskFor (codes "serve") words × HasServer (given_by words) server
IsAsked words (Connect path) =
    AskFor (codes "connect") words × (given_by words (codes "socket") ≡ Some path.now)
IsAsked words (Check config) =
    AskFor (codes "check") words × (given_by words (codes "config") ≡ Some config.now)
IsAsked words (Draw script) = AskFor (codes "draw") words
    × (given_by words (codes "SCRIPT") ≡ Some script.now)
IsAsked words (Export given) = AskFor (codes "export") words × HasExport (given_by words) given
IsAsked words (Import given) =
    AskFor (codes "import") words × HasImport (given_by words) given × GoesOn given
IsAsked words (Store given) = AskFor (codes "store") words × HasStore (given_by words) given
IsAsked words (Secret name) =
    AskFor (codes "secret") words × (given_by words (codes "NAME") ≡ Some name.now)
    × (is_name_at (given_by words) (codes "NAME") ≡ true)
IsAsked words Man = AskFor (codes "man") words
IsAsked words (Completions shell) =
    AskFor (codes "completions") words × (shell_at (given_by words) (codes "SHELL") ≡ Some shell)
IsAsked words (Help text) = AskForHelp words
IsAsked words (Mistake text) = AreTurnedDown words
