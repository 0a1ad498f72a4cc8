use Rattle.std.proofs.Common.{◌≡◌, fold, take}
use Rattle.manual.specs.Pages.{fish_option}
use Rattle.manual.proofs.fish.put_options.Given as goal

abbrev pub invariant-loop-argument : goal.invariant-loop-argument
invariant-loop-argument g l = l.page.items ≡ fold (fish_option l.name) l.fn.page.items (take l.argument-index l.arguments)
