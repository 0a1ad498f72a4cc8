-- If clap accepts the words of a command line, they name one of its subcommands, and give it what
-- it needs.
use Rattle.std.proofs.Common.{◌≡◌, inl, inr, Bool, true, false, not, ◌&&◌, ◌||◌, if◌then◌else◌, List, [], Option, None, Some, is_some, option_map, refl, ap, sym, subst, codes, true≢false}
use Rattle.std.specs.Prelude.{Box}
use Rattle.std.specs.Box.{box_value}
use Rattle.std.specs.List.{list_any}
use Rattle.std.specs.Option.{option_map_or}
use Rattle.std.specs.Str.{bytes_eq}
use Rattle.std.proofs.lemmas.Slice.Eq.{bytes_eq-Decides}
use Rattle.clap.specs.Facts.{explicit_source}
use Rattle.clap.specs.Faults.{check_fault, entered_fault, level_fault}
use Rattle.clap.specs.Kinds.{check_kinds}
use Rattle.clap.specs.Simple.{App, Shape, argument_words, built, built_leaf, entered, filled, help_shape, inherited, marked_built, names_of, new_rule, on_top, rows_at, with_index, with_leaf_noted}
use Rattle.clap.specs.Takes.{is_given}
use Rattle.clap.specs.Walk.{Row, Rule, Text, finished, first_of, nothing_held, walk, walk_from}
use Rattle.clap.specs.Words.{subcommand_name_of, subcommand_of, subcommand_rows, subcommand_rows_of}
use Rattle.clap.specs.declared.parser.matches.ArgMatches.{ArgMatches}
use Rattle.clap.specs.declared.parser.matches.ArgMatches.TheViews.{out-ArgMatches, out-SubCommand}
use Rattle.clap.specs.declared.parser.matches.SubCommand.{SubCommand}
use Rattle.command_line.specs.CommandLine.{check_line, command_for, command_line, completions_line, connect_line, draw_line, export_line, features_rule, flag_rule, import_line, man_line, needed, option_rule, refusals, script_line, secret_line, serve_line, store_line, up_to}
use Rattle.command_line.specs.declared.options.TheConstants.{CONNECTION_LIMIT, FIRST_ID_LIMIT, HTTP_WORKER_LIMIT, IDLE_LIMIT, WORKER_LIMIT}
use Rattle.command_line.proofs.HelpLemmas.{EntersNoHelp, IsNoHelp, walk_no_help}
use Rattle.command_line.proofs.NumberLemmas.{Passes, has_first, passes}
use Rattle.command_line.proofs.RowLemmas.{AreKnown, ArePassed, level_passed, level_steps}

-- ---- the subcommands, as clap builds them

abbrev built_below : App → Shape
built_below line = built_leaf (inherited (on_top with_leaf_noted (on_top marked_built command_line)).top line.top)

abbrev script_built : Shape
script_built = built_below script_line

abbrev serve_built : Shape
serve_built = built_below serve_line

abbrev connect_built : Shape
connect_built = built_below connect_line

abbrev check_built : Shape
check_built = built_below check_line

abbrev draw_built : Shape
draw_built = built_below draw_line

abbrev export_built : Shape
export_built = built_below export_line

abbrev import_built : Shape
import_built = built_below import_line

abbrev store_built : Shape
store_built = built_below store_line

abbrev secret_built : Shape
secret_built = built_below secret_line

abbrev man_built : Shape
man_built = built_below man_line

abbrev completions_built : Shape
completions_built = built_below completions_line

abbrev help_built : Shape
help_built = built_leaf help_shape

abbrev file_rule : Rule
file_rule = with_index 1 (filled (needed (new_rule (codes "FILE"))))

abbrev shell_rule : Rule
shell_rule = with_index 1 (filled (needed (new_rule (codes "SHELL"))))

abbrev drawn_rule : Rule
drawn_rule = with_index 1 (filled (needed (new_rule (codes "SCRIPT"))))

abbrev as_rule : Rule
as_rule = filled (needed (option_rule (codes "as")))

abbrev format_rule : Rule
format_rule = filled (needed (option_rule (codes "format")))

abbrev named_file_rule : Rule
named_file_rule = with_index 1 (filled (needed (new_rule (codes "FILE"))))

abbrev pub first_id_rule : Rule
first_id_rule = filled (up_to FIRST_ID_LIMIT (option_rule (codes "first-id")))

abbrev pub whole_rule : Rule
whole_rule = filled (flag_rule (codes "whole"))

abbrev pub split_rule : Rule
split_rule = filled (flag_rule (codes "split"))

abbrev pub into_script_rule : Rule
into_script_rule = filled (flag_rule (codes "script"))

abbrev action_rule : Rule
action_rule = with_index 1 (filled (needed (new_rule (codes "ACTION"))))

abbrev folder_rule : Rule
folder_rule = with_index 2 (filled (needed (new_rule (codes "DIR"))))

abbrev pub stored_rule : Rule
stored_rule = filled (flag_rule (codes "features"))

abbrev name_rule : Rule
name_rule = with_index 1 (filled (needed (new_rule (codes "NAME"))))

abbrev config_rule : Rule
config_rule = filled (needed (option_rule (codes "config")))

abbrev socket_rule : Rule
socket_rule = filled (needed (option_rule (codes "socket")))

abbrev pub connections_rule : Rule
connections_rule = filled (up_to CONNECTION_LIMIT (option_rule (codes "connections")))

abbrev pub workers_rule : Rule
workers_rule = filled (up_to WORKER_LIMIT (option_rule (codes "workers")))

abbrev pub idle_rule : Rule
idle_rule = filled (up_to IDLE_LIMIT (option_rule (codes "idle")))

abbrev pub takeover_rule : Rule
takeover_rule = filled (flag_rule (codes "takeover"))

abbrev pub until_rule : Rule
until_rule = filled (flag_rule (codes "until-stdin-ends"))

abbrev pub http_workers_rule : Rule
http_workers_rule = filled (up_to HTTP_WORKER_LIMIT (option_rule (codes "http-workers")))

abbrev pub most_rule : Rule
most_rule = filled features_rule

script_known : AreKnown script_built.rules script_built.rules
script_known = (record { plain = inl (tt, inl refl); own = refl; defaults = refl }, (record { plain = inl (tt, inl refl); own = refl; defaults = refl }, (record { plain = inl (tt, inl refl); own = refl; defaults = refl }, (record { plain = inl (tt, inl refl); own = refl; defaults = refl }, (record { plain = inr refl; own = refl; defaults = refl }, tt)))))

serve_known : AreKnown serve_built.rules serve_built.rules
serve_known = (record { plain = inl (tt, inl refl); own = refl; defaults = refl }, (record { plain = inl (tt, inl refl); own = refl; defaults = refl }, (record { plain = inl (tt, inl refl); own = refl; defaults = refl }, (record { plain = inl (tt, inl refl); own = refl; defaults = refl }, (record { plain = inl (tt, inl refl); own = refl; defaults = refl }, (record { plain = inl (tt, inr tt); own = refl; defaults = refl }, (record { plain = inl (tt, inr tt); own = refl; defaults = refl }, (record { plain = inl (tt, inl refl); own = refl; defaults = refl }, (record { plain = inl (tt, inl refl); own = refl; defaults = refl }, (record { plain = inl (tt, inl refl); own = refl; defaults = refl }, (record { plain = inl (tt, inl refl); own = refl; defaults = refl }, (record { plain = inl (tt, inl refl); own = refl; defaults = refl }, (record { plain = inl (tt, inl refl); own = refl; defaults = refl }, (record { plain = inr refl; own = refl; defaults = refl }, tt))))))))))))))

connect_known : AreKnown connect_built.rules connect_built.rules
connect_known = (record { plain = inl (tt, inl refl); own = refl; defaults = refl }, (record { plain = inr refl; own = refl; defaults = refl }, tt))

check_known : AreKnown check_built.rules check_built.rules
check_known = (record { plain = inl (tt, inl refl); own = refl; defaults = refl }, (record { plain = inr refl; own = refl; defaults = refl }, tt))

draw_known : AreKnown draw_built.rules draw_built.rules
draw_known = (record { plain = inl (tt, inl refl); own = refl; defaults = refl }, (record { plain = inr refl; own = refl; defaults = refl }, tt))

export_known : AreKnown export_built.rules export_built.rules
export_known = (record { plain = inl (tt, inl refl); own = refl; defaults = refl }, (record { plain = inl (tt, inl refl); own = refl; defaults = refl }, (record { plain = inl (tt, inl refl); own = refl; defaults = refl }, (record { plain = inl (tt, inl refl); own = refl; defaults = refl }, (record { plain = inl (tt, inl refl); own = refl; defaults = refl }, (record { plain = inl (tt, inl refl); own = refl; defaults = refl }, (record { plain = inr refl; own = refl; defaults = refl }, tt)))))))

import_known : AreKnown import_built.rules import_built.rules
import_known = (record { plain = inl (tt, inl refl); own = refl; defaults = refl }, (record { plain = inl (tt, inl refl); own = refl; defaults = refl }, (record { plain = inl (tt, inl refl); own = refl; defaults = refl }, (record { plain = inl (tt, inl refl); own = refl; defaults = refl }, (record { plain = inl (tt, inr tt); own = refl; defaults = refl }, (record { plain = inl (tt, inr tt); own = refl; defaults = refl }, (record { plain = inl (tt, inl refl); own = refl; defaults = refl }, (record { plain = inl (tt, inr tt); own = refl; defaults = refl }, (record { plain = inl (tt, inl refl); own = refl; defaults = refl }, (record { plain = inr refl; own = refl; defaults = refl }, tt))))))))))

store_known : AreKnown store_built.rules store_built.rules
store_known = (record { plain = inl (tt, inl refl); own = refl; defaults = refl }, (record { plain = inl (tt, inl refl); own = refl; defaults = refl }, (record { plain = inl (tt, inr tt); own = refl; defaults = refl }, (record { plain = inr refl; own = refl; defaults = refl }, tt))))

secret_known : AreKnown secret_built.rules secret_built.rules
secret_known = (record { plain = inl (tt, inl refl); own = refl; defaults = refl }, (record { plain = inr refl; own = refl; defaults = refl }, tt))

completions_known : AreKnown completions_built.rules completions_built.rules
completions_known = (record { plain = inl (tt, inl refl); own = refl; defaults = refl }, (record { plain = inr refl; own = refl; defaults = refl }, tt))

-- ---- what clap lets through

-- `script` has its FILE, and its number passed
pub record NeedsFile (rows : List Row) : Type 0 where
  pub file : is_some (first_of (codes "FILE") rows) ≡ true
  pub features : Passes most_rule rows

-- `connect` has its socket
abbrev pub NamesSocket : List Row → Type 0
NamesSocket rows = is_some (first_of (codes "socket") rows) ≡ true

-- `check` has its configuration's file
abbrev pub NamesConfig : List Row → Type 0
NamesConfig rows = is_some (first_of (codes "config") rows) ≡ true

-- `draw` has its script
abbrev pub NamesScript : List Row → Type 0
NamesScript rows = is_some (first_of (codes "SCRIPT") rows) ≡ true

-- `export` has its socket, its subject and its form
pub record NeedsExport (rows : List Row) : Type 0 where
  pub socket : is_some (first_of (codes "socket") rows) ≡ true
  pub subject : is_some (first_of (codes "as") rows) ≡ true
  pub format : is_some (first_of (codes "format") rows) ≡ true

-- `import` has its subject and its FILE, and its values passed
pub record NeedsImport (rows : List Row) : Type 0 where
  pub subject : is_some (first_of (codes "as") rows) ≡ true
  pub file : is_some (first_of (codes "FILE") rows) ≡ true
  pub first_id : Passes first_id_rule rows
  pub whole : Passes whole_rule rows
  pub split : Passes split_rule rows
  pub into_script : Passes into_script_rule rows

-- `store` has its ACTION and its DIR, and its values passed
pub record NeedsStore (rows : List Row) : Type 0 where
  pub action : is_some (first_of (codes "ACTION") rows) ≡ true
  pub folder : is_some (first_of (codes "DIR") rows) ≡ true
  pub features : Passes stored_rule rows

-- `secret` has its name
abbrev pub NamesName : List Row → Type 0
NamesName rows = is_some (first_of (codes "NAME") rows) ≡ true

-- `completions` has its shell
abbrev pub NamesShell : List Row → Type 0
NamesShell rows = is_some (first_of (codes "SHELL") rows) ≡ true

-- `serve` has what it needs, and its values passed
pub record HasNeeded (rows : List Row) : Type 0 where
  pub socket : is_some (first_of (codes "socket") rows) ≡ true
  pub connections : Passes connections_rule rows
  pub workers : Passes workers_rule rows
  pub idle : Passes idle_rule rows
  pub takeover : Passes takeover_rule rows
  pub until_stdin_ends : Passes until_rule rows
  pub http_workers : Passes http_workers_rule rows
  pub features : Passes most_rule rows

wanted : (b : Bool) → check_kinds false false (not b || false) ≡ [] → b ≡ true
wanted true e = refl
wanted false e = absurd cc

both_wanted : (a b : Bool) → check_kinds false false (not a || (not b || false)) ≡ [] → (a ≡ true) × (b ≡ true)
both_wanted true true e = (refl, refl)
both_wanted true false e = absurd cc
both_wanted false b e = absurd cc

all_wanted : (a b d : Bool) → check_kinds false false (not a || (not b || (not d || false))) ≡ [] → (a ≡ true) × (b ≡ true) × (d ≡ true)
all_wanted true true true e = (refl, refl, refl)
all_wanted true true false e = absurd cc
all_wanted true false d e = absurd cc
all_wanted false b d e = absurd cc

script_passed : (words : List Text) → level_fault script_built [] nothing_held words false [] ≡ [] → NeedsFile (rows_at script_built words).1
script_passed words e =
    let rows = finished script_built.rules (walk script_built.rules [] nothing_held words).held in
    let passed : ArePassed script_built.rules rows = level_passed script_built [] words false [] script_known e in
    let file : Passes file_rule rows = passes script_built.rules file_rule rows refl passed in
    record {
      file = has_first file_rule rows file (wanted (is_given (codes "FILE") rows) (level_steps script_built [] words false [] e).3);
      features = passes script_built.rules most_rule rows refl passed;
    }

serve_passed : (words : List Text) → level_fault serve_built [] nothing_held words false [] ≡ [] → HasNeeded (rows_at serve_built words).1
serve_passed words e =
    let rules = serve_built.rules in
    let rows = finished rules (walk rules [] nothing_held words).held in
    let passed : ArePassed rules rows = level_passed serve_built [] words false [] serve_known e in
    let socket : Passes socket_rule rows = passes rules socket_rule rows refl passed in
    record {
      socket = has_first socket_rule rows socket (wanted (is_given (codes "socket") rows) (level_steps serve_built [] words false [] e).3);
      connections = passes rules connections_rule rows refl passed;
      workers = passes rules workers_rule rows refl passed;
      idle = passes rules idle_rule rows refl passed;
      takeover = passes rules takeover_rule rows refl passed;
      until_stdin_ends = passes rules until_rule rows refl passed;
      http_workers = passes rules http_workers_rule rows refl passed;
      features = passes rules most_rule rows refl passed;
    }

connect_passed : (words : List Text) → level_fault connect_built [] nothing_held words false [] ≡ [] → NamesSocket (rows_at connect_built words).1
connect_passed words e =
    let rows = finished connect_built.rules (walk connect_built.rules [] nothing_held words).held in
    let passed : ArePassed connect_built.rules rows = level_passed connect_built [] words false [] connect_known e in
    let socket : Passes socket_rule rows = passes connect_built.rules socket_rule rows refl passed in
    has_first socket_rule rows socket (wanted (is_given (codes "socket") rows) (level_steps connect_built [] words false [] e).3)

check_passed : (words : List Text) → level_fault check_built [] nothing_held words false [] ≡ [] → NamesConfig (rows_at check_built words).1
check_passed words e =
    let rows = finished check_built.rules (walk check_built.rules [] nothing_held words).held in
    let passed : ArePassed check_built.rules rows = level_passed check_built [] words false [] check_known e in
    let config : Passes config_rule rows = passes check_built.rules config_rule rows refl passed in
    has_first config_rule rows config (wanted (is_given (codes "config") rows) (level_steps check_built [] words false [] e).3)

draw_passed : (words : List Text) → level_fault draw_built [] nothing_held words false [] ≡ [] → NamesScript (rows_at draw_built words).1
draw_passed words e =
    let rows = finished draw_built.rules (walk draw_built.rules [] nothing_held words).held in
    let passed : ArePassed draw_built.rules rows = level_passed draw_built [] words false [] draw_known e in
    let script : Passes drawn_rule rows = passes draw_built.rules drawn_rule rows refl passed in
    has_first drawn_rule rows script (wanted (is_given (codes "SCRIPT") rows) (level_steps draw_built [] words false [] e).3)

export_passed : (words : List Text) → level_fault export_built [] nothing_held words false [] ≡ [] → NeedsExport (rows_at export_built words).1
export_passed words e =
    let rules = export_built.rules in
    let rows = finished rules (walk rules [] nothing_held words).held in
    let passed : ArePassed rules rows = level_passed export_built [] words false [] export_known e in
    let there = all_wanted (is_given (codes "socket") rows) (is_given (codes "as") rows) (is_given (codes "format") rows) (level_steps export_built [] words false [] e).3 in
    record {
      socket = has_first socket_rule rows (passes rules socket_rule rows refl passed) there.0;
      subject = has_first as_rule rows (passes rules as_rule rows refl passed) there.1;
      format = has_first format_rule rows (passes rules format_rule rows refl passed) there.2;
    }

import_passed : (words : List Text) → level_fault import_built [] nothing_held words false [] ≡ [] → NeedsImport (rows_at import_built words).1
import_passed words e =
    let rules = import_built.rules in
    let rows = finished rules (walk rules [] nothing_held words).held in
    let passed : ArePassed rules rows = level_passed import_built [] words false [] import_known e in
    let there = both_wanted (is_given (codes "as") rows) (is_given (codes "FILE") rows) (level_steps import_built [] words false [] e).3 in
    record {
      subject = has_first as_rule rows (passes rules as_rule rows refl passed) there.0;
      file = has_first named_file_rule rows (passes rules named_file_rule rows refl passed) there.1;
      first_id = passes rules first_id_rule rows refl passed;
      whole = passes rules whole_rule rows refl passed;
      split = passes rules split_rule rows refl passed;
      into_script = passes rules into_script_rule rows refl passed;
    }

store_passed : (words : List Text) → level_fault store_built [] nothing_held words false [] ≡ [] → NeedsStore (rows_at store_built words).1
store_passed words e =
    let rules = store_built.rules in
    let rows = finished rules (walk rules [] nothing_held words).held in
    let passed : ArePassed rules rows = level_passed store_built [] words false [] store_known e in
    let there = both_wanted (is_given (codes "ACTION") rows) (is_given (codes "DIR") rows) (level_steps store_built [] words false [] e).3 in
    record {
      action = has_first action_rule rows (passes rules action_rule rows refl passed) there.0;
      folder = has_first folder_rule rows (passes rules folder_rule rows refl passed) there.1;
      features = passes rules stored_rule rows refl passed;
    }

secret_passed : (words : List Text) → level_fault secret_built [] nothing_held words false [] ≡ [] → NamesName (rows_at secret_built words).1
secret_passed words e =
    let rows = finished secret_built.rules (walk secret_built.rules [] nothing_held words).held in
    let passed : ArePassed secret_built.rules rows = level_passed secret_built [] words false [] secret_known e in
    let name : Passes name_rule rows = passes secret_built.rules name_rule rows refl passed in
    has_first name_rule rows name (wanted (is_given (codes "NAME") rows) (level_steps secret_built [] words false [] e).3)

completions_passed : (words : List Text) → level_fault completions_built [] nothing_held words false [] ≡ [] → NamesShell (rows_at completions_built words).1
completions_passed words e =
    let rows = finished completions_built.rules (walk completions_built.rules [] nothing_held words).held in
    let passed : ArePassed completions_built.rules rows = level_passed completions_built [] words false [] completions_known e in
    let shell : Passes shell_rule rows = passes completions_built.rules shell_rule rows refl passed in
    has_first shell_rule rows shell (wanted (is_given (codes "SHELL") rows) (level_steps completions_built [] words false [] e).3)

-- a subcommand and its rows, from words that clap accepts
pub data IsTaken (taken : Option (Text × List Row)) : Type 0 where
  takes_script : (rows : List Row) → taken ≡ Some (codes "script", rows) → NeedsFile rows → IsTaken taken
  takes_serve : (rows : List Row) → taken ≡ Some (codes "serve", rows) → HasNeeded rows → IsTaken taken
  takes_connect : (rows : List Row) → taken ≡ Some (codes "connect", rows) → NamesSocket rows → IsTaken taken
  takes_check : (rows : List Row) → taken ≡ Some (codes "check", rows) → NamesConfig rows → IsTaken taken
  takes_draw : (rows : List Row) → taken ≡ Some (codes "draw", rows) → NamesScript rows → IsTaken taken
  takes_export : (rows : List Row) → taken ≡ Some (codes "export", rows) → NeedsExport rows → IsTaken taken
  takes_import : (rows : List Row) → taken ≡ Some (codes "import", rows) → NeedsImport rows → IsTaken taken
  takes_store : (rows : List Row) → taken ≡ Some (codes "store", rows) → NeedsStore rows → IsTaken taken
  takes_secret : (rows : List Row) → taken ≡ Some (codes "secret", rows) → NamesName rows → IsTaken taken
  takes_man : (rows : List Row) → taken ≡ Some (codes "man", rows) → IsTaken taken
  takes_completions : (rows : List Row) → taken ≡ Some (codes "completions", rows) → NamesShell rows → IsTaken taken

abbrev app : App
app = built command_line

-- without a subcommand there is a fault
none_entered : (rows : List Row) → check_fault app.top rows false ≡ [] → ⊥
none_entered rows e = by (list_any (λ (r : Row). explicit_source r.source) rows) (list_any (λ (a : Rule). a.required && not (is_given a.id rows)) app.top.rules) e
  where
    by : (given wants : Bool) → check_kinds (not given) true wants ≡ [] → ⊥
    by true wants e = cc
    by false wants e = cc

no_help : (name : Text) → IsNoHelp name → (bytes_eq (codes "help") name || false) ≡ false
no_help name other = by (bytes_eq (codes "help") name) refl
  where
    by : (b : Bool) → bytes_eq (codes "help") name ≡ b → (b || false) ≡ false
    by false is = refl
    by true is = absurd (true≢false (subst (λ n. IsNoHelp n) (sym ((bytes_eq-Decides (codes "help") name).0 is)) other))

-- the subcommand of a name, by whether it is each of them
abbrev by_name : Bool → Bool → Bool → Bool → Bool → Bool → Bool → Bool → Bool → Bool → Bool → Bool → Option Shape
by_name is_script is_serve is_connect is_check is_draw is_export is_import is_store is_secret is_man is_completions is_help =
    if is_script then Some script_built
    else (if is_serve then Some serve_built
    else (if is_connect then Some connect_built
    else (if is_check then Some check_built
    else (if is_draw then Some draw_built
    else (if is_export then Some export_built
    else (if is_import then Some import_built
    else (if is_store then Some store_built
    else (if is_secret then Some secret_built
    else (if is_man then Some man_built
    else (if is_completions then Some completions_built
    else (if is_help then Some help_built else None)))))))))))

-- the entered subcommand is not `help`
one_entered : (rows : List Row) (words : List Text) (is_script is_serve is_connect is_check is_draw is_export is_import is_store is_secret is_man is_completions is_help : Bool) → is_help ≡ false
    → option_map_or (λ s. level_fault s [] nothing_held words false []) (by_name is_script is_serve is_connect is_check is_draw is_export is_import is_store is_secret is_man is_completions is_help) [] ≡ []
    → check_fault app.top rows (is_some (option_map (λ s. rows_at s words) (by_name is_script is_serve is_connect is_check is_draw is_export is_import is_store is_secret is_man is_completions is_help))) ≡ []
    → IsTaken (option_map (λ s. rows_at s words) (by_name is_script is_serve is_connect is_check is_draw is_export is_import is_store is_secret is_man is_completions is_help))
one_entered rows words true is_serve is_connect is_check is_draw is_export is_import is_store is_secret is_man is_completions is_help other below check = IsTaken.takes_script (rows_at script_built words).1 refl (script_passed words below)
one_entered rows words false true is_connect is_check is_draw is_export is_import is_store is_secret is_man is_completions is_help other below check = IsTaken.takes_serve (rows_at serve_built words).1 refl (serve_passed words below)
one_entered rows words false false true is_check is_draw is_export is_import is_store is_secret is_man is_completions is_help other below check = IsTaken.takes_connect (rows_at connect_built words).1 refl (connect_passed words below)
one_entered rows words false false false true is_draw is_export is_import is_store is_secret is_man is_completions is_help other below check = IsTaken.takes_check (rows_at check_built words).1 refl (check_passed words below)
one_entered rows words false false false false true is_export is_import is_store is_secret is_man is_completions is_help other below check = IsTaken.takes_draw (rows_at draw_built words).1 refl (draw_passed words below)
one_entered rows words false false false false false true is_import is_store is_secret is_man is_completions is_help other below check = IsTaken.takes_export (rows_at export_built words).1 refl (export_passed words below)
one_entered rows words false false false false false false true is_store is_secret is_man is_completions is_help other below check = IsTaken.takes_import (rows_at import_built words).1 refl (import_passed words below)
one_entered rows words false false false false false false false true is_secret is_man is_completions is_help other below check = IsTaken.takes_store (rows_at store_built words).1 refl (store_passed words below)
one_entered rows words false false false false false false false false true is_man is_completions is_help other below check = IsTaken.takes_secret (rows_at secret_built words).1 refl (secret_passed words below)
one_entered rows words false false false false false false false false false true is_completions is_help other below check = IsTaken.takes_man (rows_at man_built words).1 refl
one_entered rows words false false false false false false false false false false true is_help other below check = IsTaken.takes_completions (rows_at completions_built words).1 refl (completions_passed words below)
one_entered rows words false false false false false false false false false false false true other below check = absurd (true≢false other)
one_entered rows words false false false false false false false false false false false false other below check = absurd (none_entered rows check)

-- if clap accepts the words, they name a subcommand, which has what it needs
pub taken : (words : List Text) → refusals words ≡ [] → IsTaken (subcommand_of command_line words)
taken words e =
    let given = argument_words command_line words in
    let end = walk app.top.rules (names_of app) nothing_held given in
    let p = level_steps app.top (names_of app) given (is_some (entered app end.stopped)) (entered_fault app end.stopped) e in
    by end.stopped (walk_no_help app.top refl (names_of app) (walk_from nothing_held) given p.0 tt) (finished app.top.rules end.held) p.1 p.3
  where
    by : (stop : Option (Text × List Text)) → EntersNoHelp stop → (rows : List Row) → entered_fault app stop ≡ [] → check_fault app.top rows (is_some (entered app stop)) ≡ [] → IsTaken (entered app stop)
    by None n rows below check = absurd (none_entered rows check)
    by (Some stop) n rows below check = one_entered rows stop.1 (bytes_eq (codes "script") stop.0 || false) (bytes_eq (codes "serve") stop.0 || false) (bytes_eq (codes "connect") stop.0 || false) (bytes_eq (codes "check") stop.0 || false) (bytes_eq (codes "draw") stop.0 || false) (bytes_eq (codes "export") stop.0 || false) (bytes_eq (codes "import") stop.0 || false) (bytes_eq (codes "store") stop.0 || false) (bytes_eq (codes "secret") stop.0 || false) (bytes_eq (codes "man") stop.0 || false) (bytes_eq (codes "completions") stop.0 || false) (bytes_eq (codes "help") stop.0 || false) (no_help stop.0 n) below check

-- ---- what a subcommand of each name has

-- the rows of a subcommand, if its name is this one
abbrev AtName : Text → (List Row → Type 0) → Option (Text × List Row) → Type 0
AtName name P None = Unit {0}
AtName name P (Some sub) = sub.0 ≡ name → P sub.1

at_script : (o : Option (Text × List Row)) → IsTaken o → AtName (codes "script") NeedsFile o
at_script o (IsTaken.takes_script rows is h) = subst (AtName (codes "script") NeedsFile) (sym is) (λ same. h)
at_script o (IsTaken.takes_serve rows is h) = subst (AtName (codes "script") NeedsFile) (sym is) (λ same. absurd (true≢false (ap (bytes_eq (codes "serve")) same)))
at_script o (IsTaken.takes_connect rows is h) = subst (AtName (codes "script") NeedsFile) (sym is) (λ same. absurd (true≢false (ap (bytes_eq (codes "connect")) same)))
at_script o (IsTaken.takes_check rows is h) = subst (AtName (codes "script") NeedsFile) (sym is) (λ same. absurd (true≢false (ap (bytes_eq (codes "check")) same)))
at_script o (IsTaken.takes_draw rows is h) = subst (AtName (codes "script") NeedsFile) (sym is) (λ same. absurd (true≢false (ap (bytes_eq (codes "draw")) same)))
at_script o (IsTaken.takes_export rows is h) = subst (AtName (codes "script") NeedsFile) (sym is) (λ same. absurd (true≢false (ap (bytes_eq (codes "export")) same)))
at_script o (IsTaken.takes_import rows is h) = subst (AtName (codes "script") NeedsFile) (sym is) (λ same. absurd (true≢false (ap (bytes_eq (codes "import")) same)))
at_script o (IsTaken.takes_store rows is h) = subst (AtName (codes "script") NeedsFile) (sym is) (λ same. absurd (true≢false (ap (bytes_eq (codes "store")) same)))
at_script o (IsTaken.takes_secret rows is h) = subst (AtName (codes "script") NeedsFile) (sym is) (λ same. absurd (true≢false (ap (bytes_eq (codes "secret")) same)))
at_script o (IsTaken.takes_man rows is) = subst (AtName (codes "script") NeedsFile) (sym is) (λ same. absurd (true≢false (ap (bytes_eq (codes "man")) same)))
at_script o (IsTaken.takes_completions rows is h) = subst (AtName (codes "script") NeedsFile) (sym is) (λ same. absurd (true≢false (ap (bytes_eq (codes "completions")) same)))

pub script_has_file : (words : List Text) (rows : List Row) → refusals words ≡ [] → subcommand_of command_line words ≡ Some (codes "script", rows) → NeedsFile rows
script_has_file words rows e is = subst (AtName (codes "script") NeedsFile) is (at_script (subcommand_of command_line words) (taken words e)) refl

at_serve : (o : Option (Text × List Row)) → IsTaken o → AtName (codes "serve") HasNeeded o
at_serve o (IsTaken.takes_script rows is h) = subst (AtName (codes "serve") HasNeeded) (sym is) (λ same. absurd (true≢false (ap (bytes_eq (codes "script")) same)))
at_serve o (IsTaken.takes_serve rows is h) = subst (AtName (codes "serve") HasNeeded) (sym is) (λ same. h)
at_serve o (IsTaken.takes_connect rows is h) = subst (AtName (codes "serve") HasNeeded) (sym is) (λ same. absurd (true≢false (ap (bytes_eq (codes "connect")) same)))
at_serve o (IsTaken.takes_check rows is h) = subst (AtName (codes "serve") HasNeeded) (sym is) (λ same. absurd (true≢false (ap (bytes_eq (codes "check")) same)))
at_serve o (IsTaken.takes_draw rows is h) = subst (AtName (codes "serve") HasNeeded) (sym is) (λ same. absurd (true≢false (ap (bytes_eq (codes "draw")) same)))
at_serve o (IsTaken.takes_export rows is h) = subst (AtName (codes "serve") HasNeeded) (sym is) (λ same. absurd (true≢false (ap (bytes_eq (codes "export")) same)))
at_serve o (IsTaken.takes_import rows is h) = subst (AtName (codes "serve") HasNeeded) (sym is) (λ same. absurd (true≢false (ap (bytes_eq (codes "import")) same)))
at_serve o (IsTaken.takes_store rows is h) = subst (AtName (codes "serve") HasNeeded) (sym is) (λ same. absurd (true≢false (ap (bytes_eq (codes "store")) same)))
at_serve o (IsTaken.takes_secret rows is h) = subst (AtName (codes "serve") HasNeeded) (sym is) (λ same. absurd (true≢false (ap (bytes_eq (codes "secret")) same)))
at_serve o (IsTaken.takes_man rows is) = subst (AtName (codes "serve") HasNeeded) (sym is) (λ same. absurd (true≢false (ap (bytes_eq (codes "man")) same)))
at_serve o (IsTaken.takes_completions rows is h) = subst (AtName (codes "serve") HasNeeded) (sym is) (λ same. absurd (true≢false (ap (bytes_eq (codes "completions")) same)))

pub serve_has_needed : (words : List Text) (rows : List Row) → refusals words ≡ [] → subcommand_of command_line words ≡ Some (codes "serve", rows) → HasNeeded rows
serve_has_needed words rows e is = subst (AtName (codes "serve") HasNeeded) is (at_serve (subcommand_of command_line words) (taken words e)) refl

at_connect : (o : Option (Text × List Row)) → IsTaken o → AtName (codes "connect") NamesSocket o
at_connect o (IsTaken.takes_script rows is h) = subst (AtName (codes "connect") NamesSocket) (sym is) (λ same. absurd (true≢false (ap (bytes_eq (codes "script")) same)))
at_connect o (IsTaken.takes_serve rows is h) = subst (AtName (codes "connect") NamesSocket) (sym is) (λ same. absurd (true≢false (ap (bytes_eq (codes "serve")) same)))
at_connect o (IsTaken.takes_connect rows is h) = subst (AtName (codes "connect") NamesSocket) (sym is) (λ same. h)
at_connect o (IsTaken.takes_check rows is h) = subst (AtName (codes "connect") NamesSocket) (sym is) (λ same. absurd (true≢false (ap (bytes_eq (codes "check")) same)))
at_connect o (IsTaken.takes_draw rows is h) = subst (AtName (codes "connect") NamesSocket) (sym is) (λ same. absurd (true≢false (ap (bytes_eq (codes "draw")) same)))
at_connect o (IsTaken.takes_export rows is h) = subst (AtName (codes "connect") NamesSocket) (sym is) (λ same. absurd (true≢false (ap (bytes_eq (codes "export")) same)))
at_connect o (IsTaken.takes_import rows is h) = subst (AtName (codes "connect") NamesSocket) (sym is) (λ same. absurd (true≢false (ap (bytes_eq (codes "import")) same)))
at_connect o (IsTaken.takes_store rows is h) = subst (AtName (codes "connect") NamesSocket) (sym is) (λ same. absurd (true≢false (ap (bytes_eq (codes "store")) same)))
at_connect o (IsTaken.takes_secret rows is h) = subst (AtName (codes "connect") NamesSocket) (sym is) (λ same. absurd (true≢false (ap (bytes_eq (codes "secret")) same)))
at_connect o (IsTaken.takes_man rows is) = subst (AtName (codes "connect") NamesSocket) (sym is) (λ same. absurd (true≢false (ap (bytes_eq (codes "man")) same)))
at_connect o (IsTaken.takes_completions rows is h) = subst (AtName (codes "connect") NamesSocket) (sym is) (λ same. absurd (true≢false (ap (bytes_eq (codes "completions")) same)))

pub connect_has_socket : (words : List Text) (rows : List Row) → refusals words ≡ [] → subcommand_of command_line words ≡ Some (codes "connect", rows) → NamesSocket rows
connect_has_socket words rows e is = subst (AtName (codes "connect") NamesSocket) is (at_connect (subcommand_of command_line words) (taken words e)) refl

at_check : (o : Option (Text × List Row)) → IsTaken o → AtName (codes "check") NamesConfig o
at_check o (IsTaken.takes_script rows is h) = subst (AtName (codes "check") NamesConfig) (sym is) (λ same. absurd (true≢false (ap (bytes_eq (codes "script")) same)))
at_check o (IsTaken.takes_serve rows is h) = subst (AtName (codes "check") NamesConfig) (sym is) (λ same. absurd (true≢false (ap (bytes_eq (codes "serve")) same)))
at_check o (IsTaken.takes_connect rows is h) = subst (AtName (codes "check") NamesConfig) (sym is) (λ same. absurd (true≢false (ap (bytes_eq (codes "connect")) same)))
at_check o (IsTaken.takes_check rows is h) = subst (AtName (codes "check") NamesConfig) (sym is) (λ same. h)
at_check o (IsTaken.takes_draw rows is h) = subst (AtName (codes "check") NamesConfig) (sym is) (λ same. absurd (true≢false (ap (bytes_eq (codes "draw")) same)))
at_check o (IsTaken.takes_export rows is h) = subst (AtName (codes "check") NamesConfig) (sym is) (λ same. absurd (true≢false (ap (bytes_eq (codes "export")) same)))
at_check o (IsTaken.takes_import rows is h) = subst (AtName (codes "check") NamesConfig) (sym is) (λ same. absurd (true≢false (ap (bytes_eq (codes "import")) same)))
at_check o (IsTaken.takes_store rows is h) = subst (AtName (codes "check") NamesConfig) (sym is) (λ same. absurd (true≢false (ap (bytes_eq (codes "store")) same)))
at_check o (IsTaken.takes_secret rows is h) = subst (AtName (codes "check") NamesConfig) (sym is) (λ same. absurd (true≢false (ap (bytes_eq (codes "secret")) same)))
at_check o (IsTaken.takes_man rows is) = subst (AtName (codes "check") NamesConfig) (sym is) (λ same. absurd (true≢false (ap (bytes_eq (codes "man")) same)))
at_check o (IsTaken.takes_completions rows is h) = subst (AtName (codes "check") NamesConfig) (sym is) (λ same. absurd (true≢false (ap (bytes_eq (codes "completions")) same)))

pub check_has_config : (words : List Text) (rows : List Row) → refusals words ≡ [] → subcommand_of command_line words ≡ Some (codes "check", rows) → NamesConfig rows
check_has_config words rows e is = subst (AtName (codes "check") NamesConfig) is (at_check (subcommand_of command_line words) (taken words e)) refl

at_draw : (o : Option (Text × List Row)) → IsTaken o → AtName (codes "draw") NamesScript o
at_draw o (IsTaken.takes_script rows is h) = subst (AtName (codes "draw") NamesScript) (sym is) (λ same. absurd (true≢false (ap (bytes_eq (codes "script")) same)))
at_draw o (IsTaken.takes_serve rows is h) = subst (AtName (codes "draw") NamesScript) (sym is) (λ same. absurd (true≢false (ap (bytes_eq (codes "serve")) same)))
at_draw o (IsTaken.takes_connect rows is h) = subst (AtName (codes "draw") NamesScript) (sym is) (λ same. absurd (true≢false (ap (bytes_eq (codes "connect")) same)))
at_draw o (IsTaken.takes_check rows is h) = subst (AtName (codes "draw") NamesScript) (sym is) (λ same. absurd (true≢false (ap (bytes_eq (codes "check")) same)))
at_draw o (IsTaken.takes_draw rows is h) = subst (AtName (codes "draw") NamesScript) (sym is) (λ same. h)
at_draw o (IsTaken.takes_export rows is h) = subst (AtName (codes "draw") NamesScript) (sym is) (λ same. absurd (true≢false (ap (bytes_eq (codes "export")) same)))
at_draw o (IsTaken.takes_import rows is h) = subst (AtName (codes "draw") NamesScript) (sym is) (λ same. absurd (true≢false (ap (bytes_eq (codes "import")) same)))
at_draw o (IsTaken.takes_store rows is h) = subst (AtName (codes "draw") NamesScript) (sym is) (λ same. absurd (true≢false (ap (bytes_eq (codes "store")) same)))
at_draw o (IsTaken.takes_secret rows is h) = subst (AtName (codes "draw") NamesScript) (sym is) (λ same. absurd (true≢false (ap (bytes_eq (codes "secret")) same)))
at_draw o (IsTaken.takes_man rows is) = subst (AtName (codes "draw") NamesScript) (sym is) (λ same. absurd (true≢false (ap (bytes_eq (codes "man")) same)))
at_draw o (IsTaken.takes_completions rows is h) = subst (AtName (codes "draw") NamesScript) (sym is) (λ same. absurd (true≢false (ap (bytes_eq (codes "completions")) same)))

pub draw_has_script : (words : List Text) (rows : List Row) → refusals words ≡ [] → subcommand_of command_line words ≡ Some (codes "draw", rows) → NamesScript rows
draw_has_script words rows e is = subst (AtName (codes "draw") NamesScript) is (at_draw (subcommand_of command_line words) (taken words e)) refl

at_export : (o : Option (Text × List Row)) → IsTaken o → AtName (codes "export") NeedsExport o
at_export o (IsTaken.takes_script rows is h) = subst (AtName (codes "export") NeedsExport) (sym is) (λ same. absurd (true≢false (ap (bytes_eq (codes "script")) same)))
at_export o (IsTaken.takes_serve rows is h) = subst (AtName (codes "export") NeedsExport) (sym is) (λ same. absurd (true≢false (ap (bytes_eq (codes "serve")) same)))
at_export o (IsTaken.takes_connect rows is h) = subst (AtName (codes "export") NeedsExport) (sym is) (λ same. absurd (true≢false (ap (bytes_eq (codes "connect")) same)))
at_export o (IsTaken.takes_check rows is h) = subst (AtName (codes "export") NeedsExport) (sym is) (λ same. absurd (true≢false (ap (bytes_eq (codes "check")) same)))
at_export o (IsTaken.takes_draw rows is h) = subst (AtName (codes "export") NeedsExport) (sym is) (λ same. absurd (true≢false (ap (bytes_eq (codes "draw")) same)))
at_export o (IsTaken.takes_export rows is h) = subst (AtName (codes "export") NeedsExport) (sym is) (λ same. h)
at_export o (IsTaken.takes_import rows is h) = subst (AtName (codes "export") NeedsExport) (sym is) (λ same. absurd (true≢false (ap (bytes_eq (codes "import")) same)))
at_export o (IsTaken.takes_store rows is h) = subst (AtName (codes "export") NeedsExport) (sym is) (λ same. absurd (true≢false (ap (bytes_eq (codes "store")) same)))
at_export o (IsTaken.takes_secret rows is h) = subst (AtName (codes "export") NeedsExport) (sym is) (λ same. absurd (true≢false (ap (bytes_eq (codes "secret")) same)))
at_export o (IsTaken.takes_man rows is) = subst (AtName (codes "export") NeedsExport) (sym is) (λ same. absurd (true≢false (ap (bytes_eq (codes "man")) same)))
at_export o (IsTaken.takes_completions rows is h) = subst (AtName (codes "export") NeedsExport) (sym is) (λ same. absurd (true≢false (ap (bytes_eq (codes "completions")) same)))

pub export_has_needed : (words : List Text) (rows : List Row) → refusals words ≡ [] → subcommand_of command_line words ≡ Some (codes "export", rows) → NeedsExport rows
export_has_needed words rows e is = subst (AtName (codes "export") NeedsExport) is (at_export (subcommand_of command_line words) (taken words e)) refl

at_import : (o : Option (Text × List Row)) → IsTaken o → AtName (codes "import") NeedsImport o
at_import o (IsTaken.takes_script rows is h) = subst (AtName (codes "import") NeedsImport) (sym is) (λ same. absurd (true≢false (ap (bytes_eq (codes "script")) same)))
at_import o (IsTaken.takes_serve rows is h) = subst (AtName (codes "import") NeedsImport) (sym is) (λ same. absurd (true≢false (ap (bytes_eq (codes "serve")) same)))
at_import o (IsTaken.takes_connect rows is h) = subst (AtName (codes "import") NeedsImport) (sym is) (λ same. absurd (true≢false (ap (bytes_eq (codes "connect")) same)))
at_import o (IsTaken.takes_check rows is h) = subst (AtName (codes "import") NeedsImport) (sym is) (λ same. absurd (true≢false (ap (bytes_eq (codes "check")) same)))
at_import o (IsTaken.takes_draw rows is h) = subst (AtName (codes "import") NeedsImport) (sym is) (λ same. absurd (true≢false (ap (bytes_eq (codes "draw")) same)))
at_import o (IsTaken.takes_export rows is h) = subst (AtName (codes "import") NeedsImport) (sym is) (λ same. absurd (true≢false (ap (bytes_eq (codes "export")) same)))
at_import o (IsTaken.takes_import rows is h) = subst (AtName (codes "import") NeedsImport) (sym is) (λ same. h)
at_import o (IsTaken.takes_store rows is h) = subst (AtName (codes "import") NeedsImport) (sym is) (λ same. absurd (true≢false (ap (bytes_eq (codes "store")) same)))
at_import o (IsTaken.takes_secret rows is h) = subst (AtName (codes "import") NeedsImport) (sym is) (λ same. absurd (true≢false (ap (bytes_eq (codes "secret")) same)))
at_import o (IsTaken.takes_man rows is) = subst (AtName (codes "import") NeedsImport) (sym is) (λ same. absurd (true≢false (ap (bytes_eq (codes "man")) same)))
at_import o (IsTaken.takes_completions rows is h) = subst (AtName (codes "import") NeedsImport) (sym is) (λ same. absurd (true≢false (ap (bytes_eq (codes "completions")) same)))

pub import_has_needed : (words : List Text) (rows : List Row) → refusals words ≡ [] → subcommand_of command_line words ≡ Some (codes "import", rows) → NeedsImport rows
import_has_needed words rows e is = subst (AtName (codes "import") NeedsImport) is (at_import (subcommand_of command_line words) (taken words e)) refl

at_store : (o : Option (Text × List Row)) → IsTaken o → AtName (codes "store") NeedsStore o
at_store o (IsTaken.takes_script rows is h) = subst (AtName (codes "store") NeedsStore) (sym is) (λ same. absurd (true≢false (ap (bytes_eq (codes "script")) same)))
at_store o (IsTaken.takes_serve rows is h) = subst (AtName (codes "store") NeedsStore) (sym is) (λ same. absurd (true≢false (ap (bytes_eq (codes "serve")) same)))
at_store o (IsTaken.takes_connect rows is h) = subst (AtName (codes "store") NeedsStore) (sym is) (λ same. absurd (true≢false (ap (bytes_eq (codes "connect")) same)))
at_store o (IsTaken.takes_check rows is h) = subst (AtName (codes "store") NeedsStore) (sym is) (λ same. absurd (true≢false (ap (bytes_eq (codes "check")) same)))
at_store o (IsTaken.takes_draw rows is h) = subst (AtName (codes "store") NeedsStore) (sym is) (λ same. absurd (true≢false (ap (bytes_eq (codes "draw")) same)))
at_store o (IsTaken.takes_export rows is h) = subst (AtName (codes "store") NeedsStore) (sym is) (λ same. absurd (true≢false (ap (bytes_eq (codes "export")) same)))
at_store o (IsTaken.takes_import rows is h) = subst (AtName (codes "store") NeedsStore) (sym is) (λ same. absurd (true≢false (ap (bytes_eq (codes "import")) same)))
at_store o (IsTaken.takes_store rows is h) = subst (AtName (codes "store") NeedsStore) (sym is) (λ same. h)
at_store o (IsTaken.takes_secret rows is h) = subst (AtName (codes "store") NeedsStore) (sym is) (λ same. absurd (true≢false (ap (bytes_eq (codes "secret")) same)))
at_store o (IsTaken.takes_man rows is) = subst (AtName (codes "store") NeedsStore) (sym is) (λ same. absurd (true≢false (ap (bytes_eq (codes "man")) same)))
at_store o (IsTaken.takes_completions rows is h) = subst (AtName (codes "store") NeedsStore) (sym is) (λ same. absurd (true≢false (ap (bytes_eq (codes "completions")) same)))

pub store_has_needed : (words : List Text) (rows : List Row) → refusals words ≡ [] → subcommand_of command_line words ≡ Some (codes "store", rows) → NeedsStore rows
store_has_needed words rows e is = subst (AtName (codes "store") NeedsStore) is (at_store (subcommand_of command_line words) (taken words e)) refl

at_secret : (o : Option (Text × List Row)) → IsTaken o → AtName (codes "secret") NamesName o
at_secret o (IsTaken.takes_script rows is h) = subst (AtName (codes "secret") NamesName) (sym is) (λ same. absurd (true≢false (ap (bytes_eq (codes "script")) same)))
at_secret o (IsTaken.takes_serve rows is h) = subst (AtName (codes "secret") NamesName) (sym is) (λ same. absurd (true≢false (ap (bytes_eq (codes "serve")) same)))
at_secret o (IsTaken.takes_connect rows is h) = subst (AtName (codes "secret") NamesName) (sym is) (λ same. absurd (true≢false (ap (bytes_eq (codes "connect")) same)))
at_secret o (IsTaken.takes_check rows is h) = subst (AtName (codes "secret") NamesName) (sym is) (λ same. absurd (true≢false (ap (bytes_eq (codes "check")) same)))
at_secret o (IsTaken.takes_draw rows is h) = subst (AtName (codes "secret") NamesName) (sym is) (λ same. absurd (true≢false (ap (bytes_eq (codes "draw")) same)))
at_secret o (IsTaken.takes_export rows is h) = subst (AtName (codes "secret") NamesName) (sym is) (λ same. absurd (true≢false (ap (bytes_eq (codes "export")) same)))
at_secret o (IsTaken.takes_import rows is h) = subst (AtName (codes "secret") NamesName) (sym is) (λ same. absurd (true≢false (ap (bytes_eq (codes "import")) same)))
at_secret o (IsTaken.takes_store rows is h) = subst (AtName (codes "secret") NamesName) (sym is) (λ same. absurd (true≢false (ap (bytes_eq (codes "store")) same)))
at_secret o (IsTaken.takes_secret rows is h) = subst (AtName (codes "secret") NamesName) (sym is) (λ same. h)
at_secret o (IsTaken.takes_man rows is) = subst (AtName (codes "secret") NamesName) (sym is) (λ same. absurd (true≢false (ap (bytes_eq (codes "man")) same)))
at_secret o (IsTaken.takes_completions rows is h) = subst (AtName (codes "secret") NamesName) (sym is) (λ same. absurd (true≢false (ap (bytes_eq (codes "completions")) same)))

pub secret_has_name : (words : List Text) (rows : List Row) → refusals words ≡ [] → subcommand_of command_line words ≡ Some (codes "secret", rows) → NamesName rows
secret_has_name words rows e is = subst (AtName (codes "secret") NamesName) is (at_secret (subcommand_of command_line words) (taken words e)) refl

at_completions : (o : Option (Text × List Row)) → IsTaken o → AtName (codes "completions") NamesShell o
at_completions o (IsTaken.takes_script rows is h) = subst (AtName (codes "completions") NamesShell) (sym is) (λ same. absurd (true≢false (ap (bytes_eq (codes "script")) same)))
at_completions o (IsTaken.takes_serve rows is h) = subst (AtName (codes "completions") NamesShell) (sym is) (λ same. absurd (true≢false (ap (bytes_eq (codes "serve")) same)))
at_completions o (IsTaken.takes_connect rows is h) = subst (AtName (codes "completions") NamesShell) (sym is) (λ same. absurd (true≢false (ap (bytes_eq (codes "connect")) same)))
at_completions o (IsTaken.takes_check rows is h) = subst (AtName (codes "completions") NamesShell) (sym is) (λ same. absurd (true≢false (ap (bytes_eq (codes "check")) same)))
at_completions o (IsTaken.takes_draw rows is h) = subst (AtName (codes "completions") NamesShell) (sym is) (λ same. absurd (true≢false (ap (bytes_eq (codes "draw")) same)))
at_completions o (IsTaken.takes_export rows is h) = subst (AtName (codes "completions") NamesShell) (sym is) (λ same. absurd (true≢false (ap (bytes_eq (codes "export")) same)))
at_completions o (IsTaken.takes_import rows is h) = subst (AtName (codes "completions") NamesShell) (sym is) (λ same. absurd (true≢false (ap (bytes_eq (codes "import")) same)))
at_completions o (IsTaken.takes_store rows is h) = subst (AtName (codes "completions") NamesShell) (sym is) (λ same. absurd (true≢false (ap (bytes_eq (codes "store")) same)))
at_completions o (IsTaken.takes_secret rows is h) = subst (AtName (codes "completions") NamesShell) (sym is) (λ same. absurd (true≢false (ap (bytes_eq (codes "secret")) same)))
at_completions o (IsTaken.takes_man rows is) = subst (AtName (codes "completions") NamesShell) (sym is) (λ same. absurd (true≢false (ap (bytes_eq (codes "man")) same)))
at_completions o (IsTaken.takes_completions rows is h) = subst (AtName (codes "completions") NamesShell) (sym is) (λ same. h)

pub completions_has_shell : (words : List Text) (rows : List Row) → refusals words ≡ [] → subcommand_of command_line words ≡ Some (codes "completions", rows) → NamesShell rows
completions_has_shell words rows e is = subst (AtName (codes "completions") NamesShell) is (at_completions (subcommand_of command_line words) (taken words e)) refl

-- the names of the subcommands
pub data IsNamed (name : Option Text) : Type 0 where
  names_script : name ≡ Some (codes "script") → IsNamed name
  names_serve : name ≡ Some (codes "serve") → IsNamed name
  names_connect : name ≡ Some (codes "connect") → IsNamed name
  names_check : name ≡ Some (codes "check") → IsNamed name
  names_draw : name ≡ Some (codes "draw") → IsNamed name
  names_export : name ≡ Some (codes "export") → IsNamed name
  names_import : name ≡ Some (codes "import") → IsNamed name
  names_store : name ≡ Some (codes "store") → IsNamed name
  names_secret : name ≡ Some (codes "secret") → IsNamed name
  names_man : name ≡ Some (codes "man") → IsNamed name
  names_completions : name ≡ Some (codes "completions") → IsNamed name

-- one of them is named
pub one_named : (words : List Text) → refusals words ≡ [] → IsNamed (command_for words)
one_named words e = by (subcommand_of command_line words) (taken words e)
  where
    by : (o : Option (Text × List Row)) → IsTaken o → IsNamed (option_map (λ sub. sub.0) o)
    by o (IsTaken.takes_script rows is h) = IsNamed.names_script (ap (option_map (λ (sub : Text × List Row). sub.0)) is)
    by o (IsTaken.takes_serve rows is h) = IsNamed.names_serve (ap (option_map (λ (sub : Text × List Row). sub.0)) is)
    by o (IsTaken.takes_connect rows is h) = IsNamed.names_connect (ap (option_map (λ (sub : Text × List Row). sub.0)) is)
    by o (IsTaken.takes_check rows is h) = IsNamed.names_check (ap (option_map (λ (sub : Text × List Row). sub.0)) is)
    by o (IsTaken.takes_draw rows is h) = IsNamed.names_draw (ap (option_map (λ (sub : Text × List Row). sub.0)) is)
    by o (IsTaken.takes_export rows is h) = IsNamed.names_export (ap (option_map (λ (sub : Text × List Row). sub.0)) is)
    by o (IsTaken.takes_import rows is h) = IsNamed.names_import (ap (option_map (λ (sub : Text × List Row). sub.0)) is)
    by o (IsTaken.takes_store rows is h) = IsNamed.names_store (ap (option_map (λ (sub : Text × List Row). sub.0)) is)
    by o (IsTaken.takes_secret rows is h) = IsNamed.names_secret (ap (option_map (λ (sub : Text × List Row). sub.0)) is)
    by o (IsTaken.takes_man rows is) = IsNamed.names_man (ap (option_map (λ (sub : Text × List Row). sub.0)) is)
    by o (IsTaken.takes_completions rows is h) = IsNamed.names_completions (ap (option_map (λ (sub : Text × List Row). sub.0)) is)

-- so it cannot be that none is
pub none_left : (name : Option Text) → IsNamed name → (name ≡ Some (codes "script") → ⊥) → (name ≡ Some (codes "serve") → ⊥) → (name ≡ Some (codes "connect") → ⊥) → (name ≡ Some (codes "check") → ⊥) → (name ≡ Some (codes "draw") → ⊥) → (name ≡ Some (codes "export") → ⊥) → (name ≡ Some (codes "import") → ⊥) → (name ≡ Some (codes "store") → ⊥) → (name ≡ Some (codes "secret") → ⊥) → (name ≡ Some (codes "man") → ⊥) → (name ≡ Some (codes "completions") → ⊥) → ⊥
none_left name (IsNamed.names_script is) no_script no_serve no_connect no_check no_draw no_export no_import no_store no_secret no_man no_completions = no_script is
none_left name (IsNamed.names_serve is) no_script no_serve no_connect no_check no_draw no_export no_import no_store no_secret no_man no_completions = no_serve is
none_left name (IsNamed.names_connect is) no_script no_serve no_connect no_check no_draw no_export no_import no_store no_secret no_man no_completions = no_connect is
none_left name (IsNamed.names_check is) no_script no_serve no_connect no_check no_draw no_export no_import no_store no_secret no_man no_completions = no_check is
none_left name (IsNamed.names_draw is) no_script no_serve no_connect no_check no_draw no_export no_import no_store no_secret no_man no_completions = no_draw is
none_left name (IsNamed.names_export is) no_script no_serve no_connect no_check no_draw no_export no_import no_store no_secret no_man no_completions = no_export is
none_left name (IsNamed.names_import is) no_script no_serve no_connect no_check no_draw no_export no_import no_store no_secret no_man no_completions = no_import is
none_left name (IsNamed.names_store is) no_script no_serve no_connect no_check no_draw no_export no_import no_store no_secret no_man no_completions = no_store is
none_left name (IsNamed.names_secret is) no_script no_serve no_connect no_check no_draw no_export no_import no_store no_secret no_man no_completions = no_secret is
none_left name (IsNamed.names_man is) no_script no_serve no_connect no_check no_draw no_export no_import no_store no_secret no_man no_completions = no_man is
none_left name (IsNamed.names_completions is) no_script no_serve no_connect no_check no_draw no_export no_import no_store no_secret no_man no_completions = no_completions is

-- the subcommand that a parse entered has the name in its rows
pub name_of_rows : (matches : ArgMatches) → subcommand_name_of matches ≡ option_map (λ sub. sub.0) (subcommand_rows_of matches)
name_of_rows matches = by (out-ArgMatches matches).subcommand
  where
    by : {Z : Type 0} (o : Option (Box SubCommand Z)) → option_map (λ b. (out-SubCommand (box_value b)).name.now) o ≡ option_map (λ (sub : Text × List Row). sub.0) (subcommand_rows o)
    by None = refl
    by (Some b) = refl
