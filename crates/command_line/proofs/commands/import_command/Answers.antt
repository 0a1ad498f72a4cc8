use Rattle.std.proofs.Common.{ap, codes, ◌∙◌}
use Rattle.std.proofs.lemmas.Result.{IfOk-weaker}
use Rattle.clap.specs.Simple.{app_of_fields}
use Rattle.clap.specs.Words.{new_app}
use Rattle.clap.specs.declared.builder.command.Command.{Command}
use Rattle.clap.specs.declared.builder.command.Command.TheOpen.{Command-F}
use Rattle.command_line.specs.CommandLine.{IsCommand, option_rule}
use Rattle.command_line.proofs.CommandLemmas.{adds, demanded}
use Rattle.command_line.proofs.commands.import_command.Goals as goal

pub returns : goal.returns
returns c =
    let named : IsCommand (new_app (codes "import")) c.after_long_help.result = (
      ap app_of_fields c.after_long_help.ensures ∙ (ap app_of_fields c.long_about.ensures ∙ (ap app_of_fields c.about.ensures ∙ c.new.ensures.app)),
      ap (λ (f : Command-F Command). f.has_globals) c.after_long_help.ensures ∙ (ap (λ (f : Command-F Command). f.has_globals) c.long_about.ensures ∙ (ap (λ (f : Command-F Command). f.has_globals) c.about.ensures ∙ c.new.ensures.local)),
    ) in
    let subject = demanded (option_rule (codes "as")) c.option_argument-2.result c.required.result c.option_argument-2.ensures c.required.ensures in
    let one = adds _ _ _ _ c.option_argument.result named c.option_argument.ensures c.in_ok-arg.ensures in
    let two = adds _ _ _ _ c.required.result one subject c.in_ok-arg-2.ensures in
    let three = adds _ _ _ _ c.option_argument-3.result two c.option_argument-3.ensures c.in_ok-arg-3.ensures in
    let four = adds _ _ _ _ c.first_id_argument.result three c.first_id_argument.ensures c.in_ok-arg-4.ensures in
    let five = adds _ _ _ _ c.flag_argument.result four c.flag_argument.ensures c.in_ok-arg-5.ensures in
    let six = adds _ _ _ _ c.flag_argument-2.result five c.flag_argument-2.ensures c.in_ok-arg-6.ensures in
    let seven = adds _ _ _ _ c.option_argument-4.result six c.option_argument-4.ensures c.in_ok-arg-7.ensures in
    let eight = adds _ _ _ _ c.flag_argument-3.result seven c.flag_argument-3.ensures c.in_ok-arg-8.ensures in
    IfOk-weaker c.arg-9.result _ _ (λ command h. adds _ _ _ command c.file_argument.result eight c.file_argument.ensures h) c.arg-9.ensures
