use Rattle.manual.specs.Pages.{zsh_option}
use Rattle.manual.proofs.PageLemmas.{behind, folded, last_behind}
use Rattle.manual.proofs.zsh.put_case.Goals as goal

pub returns : goal.returns
returns g c =
    last_behind c.put-4.result _ _ _ _ c.put-4.ensures (folded zsh_option _ _ _ c.args.command.now.arguments.now c.in_ok-put_options.ensures
    (behind _ _ _ _ c.in_ok-put-3.ensures (behind _ _ _ _ c.in_ok-put-2.ensures c.in_ok-put.ensures)))
