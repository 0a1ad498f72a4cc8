use Rattle.std.proofs.Common.{sym, ◌∙◌}
use Rattle.world.proofs.TendedLemmas.{tended_opened}
use Rattle.world.proofs.WorldLemmas.{entered, index_of, opened_there}
use Rattle.world.proofs.worlds.World.open_search.Goals as goal

pub invariant_of-self : goal.invariant_of-self
invariant_of-self g c =
    tended_opened c.self.inside.plain c.enter_search.new.self c.self.inside.index c.self.inside.walks c.self.inside.kept c.self.invariant c.open_search.new.self c.args.seat c.in_ok-number.number c.in-Ok.field-0 c.args.window
    (sym c.may_open.ensures.value ∙ c.in_ok-number.was)
    (entered c.args.seat c.in_ok-number.number c.args.window c.self.inside.plain c.enter_search.new.self c.in_ok-number.ensures.next c.enter_search.ensures) (rw c.new.ensures at c.in-Ok.ensures.ok)

pub returns-in-Ok-clause-index : goal.returns-in-Ok-clause-index
returns-in-Ok-clause-index g c =
    opened_there c.args.seat c.in_ok-number.number c.in-Ok.field-0 c.args.window c.self.inside.plain c.self.inside.index c.open_search.new.self c.args.self.now.index c.self.inside.walks
    (sym c.may_open.ensures.value ∙ c.in_ok-number.was) (rw c.new.ensures at c.in-Ok.ensures.ok) c.self.invariant.world (index_of _ _ c.self.view_is)
