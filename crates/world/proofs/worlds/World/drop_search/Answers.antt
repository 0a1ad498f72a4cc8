use Rattle.world.proofs.TendedLemmas.{tended_dropped, tended_drop_refused}
use Rattle.world.proofs.worlds.World.drop_search.Goals as goal

pub invariant_of-self : goal.invariant_of-self
invariant_of-self g c = tended_drop_refused c.self.inside.plain c.drop_search.new.self c.self.inside.index c.self.inside.walks c.self.inside.kept c.self.invariant c.args.seat c.args.number _ c.in_err-drop_search.ensures

pub invariant_of-self-2 : goal.invariant_of-self-2
invariant_of-self-2 g c = tended_dropped c.self.inside.plain c.drop_search.new.self c.self.inside.index c.self.inside.walks c.self.inside.kept c.self.invariant c.close_search.new.self c.args.seat c.args.number c.in_ok-drop_search.ensures c.close_search.ensures
