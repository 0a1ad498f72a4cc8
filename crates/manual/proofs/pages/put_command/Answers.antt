use Rattle.manual.specs.Pages.{man_argument}
use Rattle.manual.proofs.PageLemmas.{behind, folded, last_behind}
use Rattle.manual.proofs.pages.put_command.Goals as goal

pub returns : goal.returns
returns g c =
    last_behind c.put-5.result _ _ _ _ c.put-5.ensures (behind _ _ _ _ c.in_ok-put_spelled-3.ensures (behind _ _ _ _ c.in_ok-put-4.ensures (folded man_argument _ _ _ c.args.command.now.arguments.now c.in_ok-put_arguments.ensures
    (behind _ _ _ _ c.in_ok-put-3.ensures (behind _ _ _ _ c.in_ok-put_spelled-2.ensures (behind _ _ _ _ c.in_ok-put-2.ensures (behind _ _ _ _ c.in_ok-put_spelled.ensures c.in_ok-put.ensures)))))))
