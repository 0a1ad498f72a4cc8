use Rattle.std.proofs.Common.{ap, codes, is_some, refl, lit<, lit≤, subst, sym, true≢false, unwrap_or, ℕ, IfSome, None, Some, Option, ◌≡◌, ◌∙◌}
use Rattle.clap.proofs.WalkLemmas.{first_value-rows}
use Rattle.clap.specs.Words.{Text, first_of, first_value, found_of, rows_of}
use Rattle.command_line.specs.Asking.{IsUpTo}
use Rattle.command_line.specs.declared.options.TheConstants.{CONNECTION_LIMIT, DEFAULT_WORKERS, IDLE_LIMIT, WORKER_LIMIT}
use Rattle.command_line.proofs.AskedLemmas.{connections_rule, idle_rule, serve_has_needed, takeover_rule, until_rule, workers_rule}
use Rattle.command_line.proofs.NumberLemmas.{flag_found, number_found}
use Rattle.command_line.proofs.words.server_options.Goals as goal

pub unreachable-requires : goal.unreachable-requires
unreachable-requires c =
    let found = found_of c.args.given.now in
    let needs = serve_has_needed c.requires.0 (rows_of found) c.requires.1 c.requires.2 in
    let none : first_of (codes "socket") (rows_of found) ≡ None = sym (first_value-rows found (codes "socket")) ∙ sym c.in_default.ensures in
    true≢false (sym needs.socket ∙ ap is_some none)

workers_or : (given : Option ℕ) → IfSome given (IsUpTo WORKER_LIMIT) → IsUpTo WORKER_LIMIT (unwrap_or given DEFAULT_WORKERS)
workers_or None fits = (lit≤ tt, lit≤ tt)
workers_or (Some n) fits = fits

pub returns : goal.returns
returns c =
    let found = found_of c.args.given.now in
    let needs = serve_has_needed c.requires.0 (rows_of found) c.requires.1 c.requires.2 in
    let read : (id : Text) → first_of id (rows_of found) ≡ first_value found id = λ id. sym (first_value-rows found id) in
    let connections = number_found 16 CONNECTION_LIMIT (lit< tt) connections_rule refl found needs.connections c.get_one.result c.get_one.ensures.none c.get_one.ensures.value in
    let workers = number_found 16 WORKER_LIMIT (lit< tt) workers_rule refl found needs.workers c.get_one-2.result c.get_one-2.ensures.none c.get_one-2.ensures.value in
    let idle = number_found 32 IDLE_LIMIT (lit< tt) idle_rule refl found needs.idle c.get_one-3.result c.get_one-3.ensures.none c.get_one-3.ensures.value in
    record {
      socket = read (codes "socket") ∙ sym c.in-Some.ensures;
      connections = connections.0;
      workers = c.unwrap_or.ensures ∙ ap (λ (given : Option ℕ). unwrap_or given DEFAULT_WORKERS) workers.0;
      idle = idle.0;
      takeover = flag_found takeover_rule refl found needs.takeover c.get_flag.result c.get_flag.ensures.none c.get_flag.ensures.value c.get_flag.ensures.other;
      until_stdin_ends = flag_found until_rule refl found needs.until_stdin_ends c.get_flag-2.result c.get_flag-2.ensures.none c.get_flag-2.ensures.value c.get_flag-2.ensures.other;
      connections_fit = connections.1;
      workers_fit = subst (IsUpTo WORKER_LIMIT) (sym c.unwrap_or.ensures) (workers_or c.get_one-2.result workers.1);
      idle_fits = idle.1;
    }
