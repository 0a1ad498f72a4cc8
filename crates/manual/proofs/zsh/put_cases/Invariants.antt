use Rattle.std.proofs.Common.{◌≡◌, fold, take}
use Rattle.manual.specs.Pages.{zsh_case}
use Rattle.manual.proofs.zsh.put_cases.Given as goal

abbrev pub invariant-loop-command : goal.invariant-loop-command
invariant-loop-command g l = l.page.items ≡ fold zsh_case l.fn.page.items (take l.command-index l.commands)
