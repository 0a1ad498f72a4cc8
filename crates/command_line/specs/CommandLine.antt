-- The command line, as clap reads it: `landmap script` and `landmap serve` with their options,
-- `landmap connect --socket PATH`, `landmap check --config FILE`, `landmap draw SCRIPT`, `landmap
-- export` and `landmap import` with their options, `landmap store ACTION DIR [--features]`, `landmap
-- secret NAME`, `landmap man`, and `landmap completions SHELL`.
use Rattle.std.specs.Prelude.{◌≡◌, ◌≢◌, ◌⊎◌, ℕ, Bool, true, false, List, [], ◌∷◌, Option, None, Some, codes, if◌then◌else◌, fold, is_some, option_map, option_and_then, pos}
use Rattle.std.specs.Option.{option_map_or}
use Rattle.std.specs.Str.{bytes_eq}
use Rattle.std.specs.Str.Parse.{digits_value, without_leading_plus}
use Rattle.clap.specs.Words.{App, IsAmong, Kinds, Rule, Text, app_of, fault_of, first_of, new_app, new_rule, rule_of, subcommand_of, with_rule, with_subcommand}
use Rattle.clap.specs.Simple.{on_top}
use Rattle.clap.specs.declared.builder.action.ArgAction.TheVariants.{SetTrue}
use Rattle.clap.specs.declared.builder.arg.Arg.{Arg}
use Rattle.clap.specs.declared.builder.command.Command.{Command}
use Rattle.clap.specs.declared.builder.command.Command.TheViews.{out-Command}
use Rattle.clap.specs.declared.error.kind.ErrorKind.{ErrorKind}
use Rattle.clap.specs.declared.error.kind.ErrorKind.TheVariants.{DisplayHelp}
use Rattle.clap.specs.declared.builder.value_parser.ValueParser.TheVariants.{Signed}
use Rattle.features.specs.Names.{name_of}
use Rattle.command_line.specs.Http.{IsHttpFault}
use Rattle.command_line.specs.declared.formats.Format.{Format}
use Rattle.command_line.specs.declared.formats.Format.TheVariants.{Csv, GeoJson, GeoJsonSeq}
use Rattle.command_line.specs.declared.shells.Shell.{Shell}
use Rattle.command_line.specs.declared.shells.Shell.TheVariants.{Bash, Fish, Zsh}
use Rattle.command_line.specs.declared.options.TheConstants.{CONNECTION_LIMIT, FEATURE_LIMIT, FIRST_ID_LIMIT, HTTP_WORKER_LIMIT, IDLE_LIMIT, WORKER_LIMIT}
use Rattle.command_line.specs.declared.stores.StoreAction.{StoreAction}
use Rattle.command_line.specs.declared.stores.StoreAction.TheVariants as actions
use Rattle.command_line.specs.declared.stores.Waits.{Waits}
use Rattle.command_line.specs.declared.stores.Waits.TheVariants.{All, Changes}

-- `--NAME VALUE`
abbrev pub option_rule : Text → Rule
option_rule name = record (new_rule name) { long = Some name; value_names = 1 }

-- `--NAME`
abbrev pub flag_rule : Text → Rule
flag_rule name = record (new_rule name) { long = Some name; action = Some SetTrue }

-- a required argument
abbrev pub needed : Rule → Rule
needed rule = record rule { required = true }

-- an argument whose value is a number from 1 to `most`
abbrev pub up_to : ℕ → Rule → Rule
up_to most rule = record rule { parser = Some (Signed (pos 1) (pos most)) }

-- `argument` is this one, and is not global (it belongs to its own subcommand only)
abbrev pub IsArgument : Rule → Arg → Type 0
IsArgument rule argument = (rule_of argument ≡ rule) × (argument.global ≡ false)

-- `command` is this one, and has no global arguments
abbrev pub IsCommand : App → Command → Type 0
IsCommand app command = (app_of command ≡ app) × ((out-Command command).has_globals ≡ false)

abbrev pub subcommand_line : Text → List Rule → App
subcommand_line name rules = fold with_rule (new_app name) rules

-- `--features N`
abbrev pub features_rule : Rule
features_rule = up_to FEATURE_LIMIT (option_rule (codes "features"))

-- `script [--config FILE] [--store DIR] [--features N] FILE`
abbrev pub script_line : App
script_line = subcommand_line (codes "script")
    (option_rule (codes "config") ∷ option_rule (codes "store") ∷ features_rule
    ∷ needed (new_rule (codes "FILE")) ∷ [])

-- `serve --socket PATH [--config FILE] [--connections N] [--workers N] [--idle SECONDS] [--takeover]
-- [--until-stdin-ends] [--store DIR] [--wait WHAT] [--http ADDRESS:PORT] [--http-socket PATH]
-- [--http-workers N] [--features N]`
abbrev pub serve_line : App
serve_line = subcommand_line (codes "serve") (
    needed (option_rule (codes "socket")) ∷ option_rule (codes "config") ∷ up_to CONNECTION_LIMIT
    (option_rule (codes "connections"))
    ∷ up_to WORKER_LIMIT (option_rule (codes "workers")) ∷ up_to IDLE_LIMIT
    (option_rule (codes "idle"))
    ∷ flag_rule (codes "takeover") ∷ flag_rule (codes "until-stdin-ends")
    ∷ option_rule (codes "store") ∷ option_rule (codes "wait") ∷ option_rule (codes "http")
    ∷ option_rule (codes "http-socket") ∷ up_to HTTP_WORKER_LIMIT
    (option_rule (codes "http-workers"))
    ∷ features_rule ∷ [])

-- `connect --socket PATH`
abbrev pub connect_line : App
connect_line = subcommand_line (codes "connect") (needed (option_rule (codes "socket")) ∷ [])

-- `check --config FILE`
abbrev pub check_line : App
check_line = subcommand_line (codes "check") (needed (option_rule (codes "config")) ∷ [])

-- `draw SCRIPT`
abbrev pub draw_line : App
draw_line = subcommand_line (codes "draw") (needed (new_rule (codes "SCRIPT")) ∷ [])

-- `export --socket PATH --as NAME [--window SHAPE] [--class NAME] [--config FILE] --format FORMAT`
abbrev pub export_line : App
export_line = subcommand_line (codes "export") (
    needed (option_rule (codes "socket")) ∷ needed (option_rule (codes "as"))
    ∷ option_rule (codes "window") ∷ option_rule (codes "class") ∷ option_rule (codes "config")
    ∷ needed (option_rule (codes "format")) ∷ [])

-- `import [--socket PATH] --as NAME [--class NAME] [--first-id N] [--whole] [--split] [--config FILE]
-- [--script] FILE`
abbrev pub import_line : App
import_line = subcommand_line (codes "import") (
    option_rule (codes "socket") ∷ needed (option_rule (codes "as")) ∷ option_rule (codes "class")
    ∷ up_to FIRST_ID_LIMIT (option_rule (codes "first-id")) ∷ flag_rule (codes "whole")
    ∷ flag_rule (codes "split") ∷ option_rule (codes "config") ∷ flag_rule (codes "script")
    ∷ needed (new_rule (codes "FILE")) ∷ [])

-- `store ACTION DIR [--features]`
abbrev pub store_line : App
store_line = subcommand_line (codes "store") (
    needed (new_rule (codes "ACTION")) ∷ needed (new_rule (codes "DIR"))
    ∷ flag_rule (codes "features") ∷ [])

-- `secret NAME`
abbrev pub secret_line : App
secret_line = subcommand_line (codes "secret") (needed (new_rule (codes "NAME")) ∷ [])

-- `man`
abbrev pub man_line : App
man_line = subcommand_line (codes "man") []

-- `completions SHELL`
abbrev pub completions_line : App
completions_line = subcommand_line (codes "completions") (needed (new_rule (codes "SHELL")) ∷ [])

-- the command line without its subcommands; one of them is required
abbrev pub bare_line : App
bare_line = on_top (λ s. record s { subcommand_required = true; arg_required_else_help = true })
    (new_app (codes "landmap"))

-- the subcommands, in the order of help
abbrev pub subcommands : List App
subcommands = script_line ∷ serve_line ∷ connect_line ∷ check_line ∷ draw_line
    ∷ export_line ∷ import_line ∷ store_line ∷ secret_line ∷ man_line ∷ completions_line ∷ []

-- the command line with its subcommands
abbrev pub command_line : App
command_line = fold (λ app line. with_subcommand app line.top) bare_line subcommands

-- why clap rejects the words, or that they ask for help; empty if clap accepts them
abbrev pub refusals : List Text → Kinds
refusals words = fault_of command_line words

-- the subcommand that the words name
abbrev pub command_for : List Text → Option Text
command_for words = option_map (λ sub. sub.0) (subcommand_of command_line words)

-- clap accepts the words, and they name this subcommand
abbrev pub AskFor : Text → List Text → Type 0
AskFor name words = (refusals words ≡ []) × (command_for words ≡ Some name)

-- clap answers the words with help
abbrev pub AskForHelp : List Text → Type 0
AskForHelp words = IsAmong DisplayHelp (refusals words)

-- clap rejects the words, for another reason than that they ask for help
abbrev pub AreRejected : List Text → Type 0
AreRejected words = (kind : ErrorKind) × IsAmong kind (refusals words) × (kind ≢ DisplayHelp)

-- what the words give the subcommand for an argument
abbrev pub given_by : List Text → Text → Option Text
given_by words id = option_and_then (first_of id)
    (option_map (λ sub. sub.1) (subcommand_of command_line words))

-- the shell of this name
abbrev pub shell_named : Text → Option Shell
shell_named name =
    if bytes_eq name (codes "bash") then Some Bash
    else if bytes_eq name (codes "zsh") then Some Zsh
    else if bytes_eq name (codes "fish") then Some Fish
    else None

-- the shell that is given for an argument
abbrev pub shell_at : (Text → Option Text) → Text → Option Shell
shell_at given id = option_and_then shell_named (given id)

-- the words ask for completions of a shell that has none
abbrev pub NameNoShell : List Text → Type 0
NameNoShell words = AskFor (codes "completions") words
    × (shell_at (given_by words) (codes "SHELL") ≡ None)

-- the form of a file of this name
abbrev pub format_named : Text → Option Format
format_named name =
    if bytes_eq name (codes "geojson") then Some GeoJson
    else if bytes_eq name (codes "geojsonseq") then Some GeoJsonSeq
    else if bytes_eq name (codes "csv") then Some Csv
    else None

-- the form that is given for an argument
abbrev pub format_at : (Text → Option Text) → Text → Option Format
format_at given id = option_and_then format_named (given id)

-- the words ask for an export in a form that there is not
abbrev pub NameNoFormat : List Text → Type 0
NameNoFormat words = AskFor (codes "export") words
    × (format_at (given_by words) (codes "format") ≡ None)

-- for which records replies wait, by the name of it
abbrev pub waits_named : Text → Option Waits
waits_named name =
    if bytes_eq name (codes "all") then Some All
    else if bytes_eq name (codes "changes") then Some Changes
    else None

-- for which records replies wait by what is given; all, if nothing is
abbrev pub waits_at : (Text → Option Text) → Text → Option Waits
waits_at given id = option_map_or waits_named (given id) (Some All)

-- what is done with a store, by the name of it
abbrev pub action_named : Text → Option StoreAction
action_named name =
    if bytes_eq name (codes "check") then Some actions.Check
    else if bytes_eq name (codes "list") then Some actions.List
    else if bytes_eq name (codes "export") then Some actions.Export
    else None

-- what is done with a store by what is given
abbrev pub action_at : (Text → Option Text) → Text → Option StoreAction
action_at given id = option_and_then action_named (given id)

-- what is given for an argument is a name
abbrev pub is_name_at : (Text → Option Text) → Text → Bool
is_name_at given id = option_map_or (λ text. is_some (name_of text)) (given id) false

-- the words ask for a secret of what is no name
abbrev pub NameNoName : List Text → Type 0
NameNoName words = AskFor (codes "secret") words × (is_name_at (given_by words) (codes "NAME") ≡ false)

-- the words ask for a server whose replies wait for what there is not
abbrev pub NameNoWait : List Text → Type 0
NameNoWait words = AskFor (codes "serve") words
    × (waits_at (given_by words) (codes "wait") ≡ None)

-- the words ask for a server that cannot answer HTTP as they say
abbrev pub NameNoHttp : List Text → Type 0
NameNoHttp words = AskFor (codes "serve") words × IsHttpFault (given_by words)

-- the words ask for what is not done with a store
abbrev pub NameNoAction : List Text → Type 0
NameNoAction words = AskFor (codes "store") words
    × (action_at (given_by words) (codes "ACTION") ≡ None)

-- the number that digits spell, after an optional plus
abbrev pub number_of : Text → ℕ
number_of text = digits_value 10 (without_leading_plus text)

-- what is given for an argument, as a number, and as a flag
abbrev pub number_at : (Text → Option Text) → Text → Option ℕ
number_at given id = option_map number_of (given id)

abbrev pub flag_at : (Text → Option Text) → Text → Bool
flag_at given id = option_map_or (λ text. bytes_eq text (codes "true")) (given id) false

-- the words ask for an import that goes neither to a server nor into a script
abbrev pub NameNoServer : List Text → Type 0
NameNoServer words = AskFor (codes "import") words × (given_by words (codes "socket") ≡ None)
    × (flag_at (given_by words) (codes "script") ≡ false)

-- the words are wrong
abbrev pub AreTurnedDown : List Text → Type 0
AreTurnedDown words = AreRejected words ⊎ (NameNoShell words ⊎ (NameNoFormat words
    ⊎ (NameNoServer words ⊎ (NameNoWait words ⊎ (NameNoHttp words ⊎ (NameNoAction words
    ⊎ NameNoName words))))))
