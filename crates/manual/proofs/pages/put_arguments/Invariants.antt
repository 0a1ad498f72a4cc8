use Rattle.std.proofs.Common.{◌≡◌, fold, take}
use Rattle.manual.specs.Pages.{man_argument}
use Rattle.manual.proofs.pages.put_arguments.Given as goal

abbrev pub invariant-loop-argument : goal.invariant-loop-argument
invariant-loop-argument g l = l.page.items ≡ fold man_argument l.fn.page.items (take l.argument-index l.arguments)
