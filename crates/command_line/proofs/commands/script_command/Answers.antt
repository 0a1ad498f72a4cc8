use Rattle.std.proofs.Common.{ap, codes, ◌∙◌}
use Rattle.std.proofs.lemmas.Result.{IfOk-weaker}
use Rattle.clap.specs.Simple.{app_of_fields}
use Rattle.clap.specs.Words.{new_app}
use Rattle.clap.specs.declared.builder.command.Command.{Command}
use Rattle.clap.specs.declared.builder.command.Command.TheOpen.{Command-F}
use Rattle.command_line.specs.CommandLine.{IsCommand}
use Rattle.command_line.proofs.CommandLemmas.{adds}
use Rattle.command_line.proofs.commands.script_command.Goals as goal

pub returns : goal.returns
returns c =
    let named : IsCommand (new_app (codes "script")) c.after_long_help.result = (
      ap app_of_fields c.after_long_help.ensures ∙ (ap app_of_fields c.long_about.ensures ∙ (ap app_of_fields c.about.ensures ∙ c.new.ensures.app)),
      ap (λ (f : Command-F Command). f.has_globals) c.after_long_help.ensures ∙ (ap (λ (f : Command-F Command). f.has_globals) c.long_about.ensures ∙ (ap (λ (f : Command-F Command). f.has_globals) c.about.ensures ∙ c.new.ensures.local)),
    ) in
    let one = adds _ _ _ _ c.option_argument.result named c.option_argument.ensures c.in_ok-arg.ensures in
    let two = adds _ _ _ _ c.option_argument-2.result one c.option_argument-2.ensures c.in_ok-arg-2.ensures in
    let three = adds _ _ _ _ c.features_argument.result two c.features_argument.ensures c.in_ok-arg-3.ensures in
    IfOk-weaker c.arg-4.result _ _ (λ command h. adds _ _ _ command c.place_argument.result three c.place_argument.ensures h) c.arg-4.ensures
