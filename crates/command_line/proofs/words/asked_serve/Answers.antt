use Rattle.std.proofs.Common.{ap, codes, inl, lit<, refl, sym, Option, Some, ◌≡◌, ◌∙◌}
use Rattle.std.specs.Option.{option_map_or}
use Rattle.clap.proofs.WalkLemmas.{first_value-rows}
use Rattle.clap.specs.Words.{Text, first_of, first_value, found_of, rows_of}
use Rattle.command_line.specs.CommandLine.{waits_named}
use Rattle.command_line.specs.declared.stores.Waits.{Waits}
use Rattle.command_line.specs.declared.stores.Waits.TheVariants.{All}
use Rattle.command_line.specs.declared.options.TheConstants.{FEATURE_LIMIT, HTTP_WORKER_LIMIT}
use Rattle.command_line.proofs.AskedLemmas.{http_workers_rule, most_rule, serve_has_needed}
use Rattle.command_line.proofs.NumberLemmas.{number_found}
use Rattle.command_line.proofs.words.asked_serve.Goals as goal

abbrev waits_by : Option Text → Option Waits
waits_by given = option_map_or waits_named given (Some All)

pub returns-in_default : goal.returns-in_default
returns-in_default c =
    inl (ap waits_by (sym (first_value-rows (found_of c.args.given.now) (codes "wait")) ∙ sym c.get_str-wait.ensures) ∙ sym c.in_default.ensures)

pub returns : goal.returns
returns c =
    let found = found_of c.args.given.now in
    let needs = serve_has_needed c.requires.0 (rows_of found) c.requires.1 c.requires.2 in
    let read : (id : Text) → first_of id (rows_of found) ≡ first_value found id = λ id. sym (first_value-rows found id) in
    let workers = number_found 16 HTTP_WORKER_LIMIT (lit< tt) http_workers_rule refl found needs.http_workers c.get_one.result c.get_one.ensures.none c.get_one.ensures.value in
    let features = number_found 32 FEATURE_LIMIT (lit< tt) most_rule refl found needs.features c.get_one-2.result c.get_one-2.ensures.none c.get_one-2.ensures.value in
    record {
      options = c.server_options-options.ensures;
      config = read (codes "config") ∙ sym c.get_str.ensures;
      store = read (codes "store") ∙ sym c.get_str-2.ensures;
      waits = ap waits_by (read (codes "wait") ∙ sym c.get_str-wait.ensures) ∙ sym c.in-Some.ensures;
      http = c.in-Ok.ensures;
      http_workers = workers.0;
      http_workers_fit = workers.1;
      features = features.0;
      features_fit = features.1;
    }
