use Rattle.std.proofs.Common.{ap, codes, refl, ◌∙◌, Some}
use Rattle.std.specs.Prelude.{ℤ}
use mir.Syntax.{w64}
use mir.Val.{of_z, to_z}
use Rattle.std.proofs.lemmas.Result.{IfOk-weaker}
use Rattle.clap.specs.Simple.{app_of_fields}
use Rattle.clap.specs.Words.{new_app}
use Rattle.clap.specs.declared.builder.command.Command.{Command}
use Rattle.clap.specs.declared.builder.command.Command.TheOpen.{Command-F}
use Rattle.command_line.specs.CommandLine.{IsCommand, option_rule}
use Rattle.command_line.specs.declared.options.TheConstants.{CONNECTION_LIMIT, IDLE_LIMIT, WORKER_LIMIT}
use Rattle.command_line.proofs.CommandLemmas.{adds, demanded, narrowed, ranged}
use Rattle.command_line.proofs.commands.serve_command.Goals as goal

pub returns : goal.returns
returns c =
    let named : IsCommand (new_app (codes "serve")) c.after_long_help.result = (
      ap app_of_fields c.after_long_help.ensures ∙ (ap app_of_fields c.long_about.ensures ∙ (ap app_of_fields c.about.ensures ∙ c.new-4.ensures.app)),
      ap (λ (f : Command-F Command). f.has_globals) c.after_long_help.ensures ∙ (ap (λ (f : Command-F Command). f.has_globals) c.long_about.ensures ∙ (ap (λ (f : Command-F Command). f.has_globals) c.about.ensures ∙ c.new-4.ensures.local)),
    ) in
    let socket = demanded (option_rule (codes "socket")) c.option_argument.result c.required-socket.result c.option_argument.ensures c.required-socket.ensures in
    let fits : (z : ℤ) → ℤ = λ z. to_z w64 (of_z w64 z) in
    let at_connections = narrowed c.value_parser.result c.range-connection_range.result _ _ 65535 CONNECTION_LIMIT c.value_parser.ensures c.new.ensures.start (c.new.ensures.end ∙ ap fits c.from.ensures) c.range-connection_range.ensures refl in
    let at_workers = narrowed c.value_parser-2.result c.range-worker_range.result _ _ 65535 WORKER_LIMIT c.value_parser-2.ensures c.new-2.ensures.start (c.new-2.ensures.end ∙ ap fits c.from-2.ensures) c.range-worker_range.ensures refl in
    let at_idle = narrowed c.value_parser-3.result c.range-idle_range.result _ _ 4294967295 IDLE_LIMIT c.value_parser-3.ensures c.new-3.ensures.start (c.new-3.ensures.end ∙ ap fits c.from-3.ensures) c.range-idle_range.ensures refl in
    let parsed = c.value_parser-connections.ensures in
    let parsed_workers = c.value_parser-workers.ensures in
    let parsed_idle = c.value_parser-idle.ensures in
    let connections = ranged (option_rule (codes "connections")) CONNECTION_LIMIT c.option_argument-connections.result c.value_parser-connections.result c.option_argument-connections.ensures parsed.others (parsed.given.1 ∙ ap Some (parsed.given.2 ∙ at_connections)) in
    let workers = ranged (option_rule (codes "workers")) WORKER_LIMIT c.option_argument-2.result c.value_parser-workers.result c.option_argument-2.ensures parsed_workers.others (parsed_workers.given.1 ∙ ap Some (parsed_workers.given.2 ∙ at_workers)) in
    let idle = ranged (option_rule (codes "idle")) IDLE_LIMIT c.option_argument-3.result c.value_parser-idle.result c.option_argument-3.ensures parsed_idle.others (parsed_idle.given.1 ∙ ap Some (parsed_idle.given.2 ∙ at_idle)) in
    let one = adds _ _ _ _ c.required-socket.result named socket c.in_ok-arg.ensures in
    let two = adds _ _ _ _ c.option_argument-4.result one c.option_argument-4.ensures c.in_ok-arg-2.ensures in
    let three = adds _ _ _ _ c.value_parser-connections.result two connections c.in_ok-arg-3.ensures in
    let four = adds _ _ _ _ c.value_parser-workers.result three workers c.in_ok-arg-4.ensures in
    let five = adds _ _ _ _ c.value_parser-idle.result four idle c.in_ok-arg-5.ensures in
    let six = adds _ _ _ _ c.flag_argument.result five c.flag_argument.ensures c.in_ok-arg-6.ensures in
    let seven = adds _ _ _ _ c.flag_argument-2.result six c.flag_argument-2.ensures c.in_ok-arg-7.ensures in
    let eight = adds _ _ _ _ c.option_argument-5.result seven c.option_argument-5.ensures c.in_ok-arg-8.ensures in
    let nine = adds _ _ _ _ c.option_argument-6.result eight c.option_argument-6.ensures c.in_ok-arg-9.ensures in
    let ten = adds _ _ _ _ c.option_argument-7.result nine c.option_argument-7.ensures c.in_ok-arg-10.ensures in
    let eleven = adds _ _ _ _ c.option_argument-8.result ten c.option_argument-8.ensures c.in_ok-arg-11.ensures in
    let twelve = adds _ _ _ _ c.http_workers_argument.result eleven c.http_workers_argument.ensures c.in_ok-arg-12.ensures in
    IfOk-weaker c.arg-13.result _ _ (λ command h. adds _ _ _ command c.features_argument.result twelve c.features_argument.ensures h) c.arg-13.ensures
