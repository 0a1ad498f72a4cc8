use Rattle.std.proofs.Common.{◌≡◌, fold, take}
use Rattle.manual.specs.Pages.{zsh_word}
use Rattle.manual.proofs.zsh.put_words.Given as goal

abbrev pub invariant-loop-command : goal.invariant-loop-command
invariant-loop-command g l = l.page.items ≡ fold zsh_word l.fn.page.items (take l.command-index l.commands)
