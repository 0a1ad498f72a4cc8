use Rattle.std.proofs.Common.{ap, codes, refl, ◌∙◌, Some}
use Rattle.std.specs.Prelude.{ℤ}
use mir.Syntax.{w64}
use mir.Val.{of_z, to_z}
use Rattle.command_line.specs.CommandLine.{option_rule}
use Rattle.command_line.specs.declared.options.TheConstants.{FEATURE_LIMIT}
use Rattle.command_line.proofs.CommandLemmas.{narrowed, ranged}
use Rattle.command_line.proofs.commands.features_argument.Goals as goal

pub returns : goal.returns
returns c =
    let fits : (z : ℤ) → ℤ = λ z. to_z w64 (of_z w64 z) in
    let at = narrowed c.value_parser.result c.range-feature_range.result _ _ 4294967295 FEATURE_LIMIT c.value_parser.ensures c.new.ensures.start (c.new.ensures.end ∙ ap fits c.from.ensures) c.range-feature_range.ensures refl in
    let parsed = c.value_parser-2.ensures in
    ranged (option_rule (codes "features")) FEATURE_LIMIT c.option_argument.result c.value_parser-2.result c.option_argument.ensures parsed.others (parsed.given.1 ∙ ap Some (parsed.given.2 ∙ at))
