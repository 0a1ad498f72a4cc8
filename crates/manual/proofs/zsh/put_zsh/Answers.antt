use Rattle.manual.specs.Pages.{zsh_case, zsh_word}
use Rattle.manual.proofs.PageLemmas.{behind, folded, last_behind}
use Rattle.manual.proofs.zsh.put_zsh.Goals as goal

pub returns : goal.returns
returns g c =
    last_behind c.put-3.result _ _ _ _ c.put-3.ensures (folded zsh_case _ _ _ c.args.table.now.commands c.in_ok-put_cases.ensures
    (behind _ _ _ _ c.in_ok-put-2.ensures (folded zsh_word _ _ _ c.args.table.now.commands c.in_ok-put_words.ensures c.in_ok-put.ensures)))
