use Rattle.std.proofs.Common.{◌≡◌, fold, take}
use Rattle.manual.specs.Pages.{fish_command}
use Rattle.manual.proofs.fish.put_fish.Given as goal

abbrev pub invariant-loop-command : goal.invariant-loop-command
invariant-loop-command g l = l.page.items ≡ fold fish_command l.fn.page.items (take l.command-index l.commands)
