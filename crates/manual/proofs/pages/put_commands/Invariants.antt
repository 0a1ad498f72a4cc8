use Rattle.std.proofs.Common.{◌≡◌, fold, take}
use Rattle.manual.specs.Pages.{man_command}
use Rattle.manual.proofs.pages.put_commands.Given as goal

abbrev pub invariant-loop-command : goal.invariant-loop-command
invariant-loop-command g l = l.page.items ≡ fold man_command l.fn.page.items (take l.command-index l.commands)
