use Rattle.std.proofs.Common.{ap, codes, refl, ◌∙◌, Some}
use Rattle.std.specs.Prelude.{ℤ}
use mir.Syntax.{w64}
use mir.Val.{of_z, to_z}
use Rattle.command_line.specs.CommandLine.{option_rule}
use Rattle.command_line.specs.declared.options.TheConstants.{HTTP_WORKER_LIMIT}
use Rattle.command_line.proofs.CommandLemmas.{narrowed, ranged}
use Rattle.command_line.proofs.commands.http_workers_argument.Goals as goal

pub returns : goal.returns
returns c =
    let fits : (z : ℤ) → ℤ = λ z. to_z w64 (of_z w64 z) in
    let at = narrowed c.value_parser.result c.range-worker_range.result _ _ 65535 HTTP_WORKER_LIMIT c.value_parser.ensures c.new.ensures.start (c.new.ensures.end ∙ ap fits c.from.ensures) c.range-worker_range.ensures refl in
    let parsed = c.value_parser-2.ensures in
    ranged (option_rule (codes "http-workers")) HTTP_WORKER_LIMIT c.option_argument.result c.value_parser-2.result c.option_argument.ensures parsed.others (parsed.given.1 ∙ ap Some (parsed.given.2 ∙ at))
