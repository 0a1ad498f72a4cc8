use Rattle.std.proofs.Common.{◌≡◌, fold, take}
use Rattle.manual.specs.Pages.{bash_option}
use Rattle.manual.proofs.bash.put_options.Given as goal

abbrev pub invariant-loop-argument : goal.invariant-loop-argument
invariant-loop-argument g l = l.page.items ≡ fold bash_option l.fn.page.items (take l.argument-index l.arguments)
