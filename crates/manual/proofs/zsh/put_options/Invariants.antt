use Rattle.std.proofs.Common.{◌≡◌, fold, take}
use Rattle.manual.specs.Pages.{zsh_option}
use Rattle.manual.proofs.zsh.put_options.Given as goal

abbrev pub invariant-loop-argument : goal.invariant-loop-argument
invariant-loop-argument g l = l.page.items ≡ fold zsh_option l.fn.page.items (take l.argument-index l.arguments)
