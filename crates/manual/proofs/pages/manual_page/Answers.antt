use Rattle.std.proofs.Common.{◌∙◌, ℕ, List, ap}
use Rattle.manual.specs.Pages.{man_command, man_head}
use Rattle.manual.proofs.PageLemmas.{behind, folded}
use Rattle.manual.proofs.pages.manual_page.Goals as goal

pub returns : goal.returns
returns g c =
    behind _ _ _ _ c.in_ok-put-2.ensures (behind _ _ _ _ c.in_ok-put_spelled.ensures (behind _ _ _ _ c.in_ok-put.ensures (folded man_command _ _ _ c.args.table.now.commands c.in_ok-put_commands.ensures
    (c.in_ok-put_head.ensures ∙ ap (λ (p : List ℕ). man_head p c.args.table.now) c.new-page.ensures.items))))
