use Rattle.std.proofs.Common.{◌≡◌, false, sym, ◌∙◌}
use Rattle.features.specs.Changes.{change_id}
use Rattle.judging.proofs.AcceptedLemmas.{distinct_push}
use Rattle.plain_world.specs.Staging.{names}
use Rattle.plain_world.proofs.TransactionLemmas.{unnamed}
use Rattle.session_lines.proofs.desks.Staged.stage.Goals as goal

pub invariant_of-self : goal.invariant_of-self
invariant_of-self c =
    let none : names (change_id c.args.change) c.self.inside.changes ≡ false = rw (← c.id.ensures, ← c.as_slice.ensures.value) (sym c.is_named.ensures ∙ c.if-is_named.false) in
    rw c.push.ensures (distinct_push _ _ c.self.invariant (unnamed _ _ none))
