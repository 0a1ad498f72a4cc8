use Rattle.world.proofs.TendedLemmas.{tended_begun, tended_begin_refused}
use Rattle.world.proofs.WorldLemmas.{few_walks}
use Rattle.world.proofs.worlds.World.begin.Goals as goal

pub invariant_of-self : goal.invariant_of-self
invariant_of-self g c = tended_begin_refused c.self.inside.plain c.begin.new.self c.self.inside.index c.self.inside.walks c.self.inside.kept c.self.invariant c.args.seat _ c.in_err-number.ensures

pub begin-requires-2 : goal.begin-requires-2
begin-requires-2 g c = few_walks c.args.seat c.in_ok-number.number c.self.inside.plain c.begin.new.self c.self.inside.index c.self.inside.walks c.in_ok-number.ensures c.self.invariant.world

pub invariant_of-self-2 : goal.invariant_of-self-2
invariant_of-self-2 g c = rw c.begin-2.ensures (tended_begun c.self.inside.plain c.begin.new.self c.self.inside.index c.self.inside.walks c.self.inside.kept c.self.invariant c.args.seat c.in_ok-number.number c.in_ok-number.ensures)
