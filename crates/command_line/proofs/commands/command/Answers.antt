use Rattle.std.proofs.lemmas.Result.{IfOk-weaker}
use Rattle.command_line.specs.CommandLine.{check_line, completions_line, connect_line, draw_line, export_line, import_line, man_line, script_line, secret_line, serve_line, store_line}
use Rattle.command_line.proofs.CommandLemmas.{adds_command}
use Rattle.command_line.proofs.commands.command.Goals as goal

pub returns : goal.returns
returns c =
    let one = adds_command _ script_line _ _ _ c.bare_command.ensures c.in_ok-script_command.ensures c.in_ok-subcommand.ensures in
    let two = adds_command _ serve_line _ _ _ one c.in_ok-serve_command.ensures c.in_ok-subcommand-2.ensures in
    let three = adds_command _ connect_line _ _ _ two c.in_ok-connect_command.ensures c.in_ok-subcommand-3.ensures in
    let four = adds_command _ check_line _ _ _ three c.in_ok-check_command.ensures c.in_ok-subcommand-4.ensures in
    let five = adds_command _ draw_line _ _ _ four c.in_ok-draw_command.ensures c.in_ok-subcommand-5.ensures in
    let six = adds_command _ export_line _ _ _ five c.in_ok-export_command.ensures c.in_ok-subcommand-6.ensures in
    let seven = adds_command _ import_line _ _ _ six c.in_ok-import_command.ensures c.in_ok-subcommand-7.ensures in
    let eight = adds_command _ store_line _ _ _ seven c.in_ok-store_command.ensures c.in_ok-subcommand-8.ensures in
    let nine = adds_command _ secret_line _ _ _ eight c.in_ok-secret_command.ensures c.in_ok-subcommand-9.ensures in
    let ten = adds_command _ man_line _ _ _ nine c.man_command.ensures c.in_ok-subcommand-10.ensures in
    IfOk-weaker c.subcommand-11.result _ _ (λ command h. adds_command _ completions_line _ _ command ten c.in_ok-completions_command.ensures h) c.subcommand-11.ensures
