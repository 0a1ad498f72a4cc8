use Rattle.world.specs.Walks.{walk_ended}
use Rattle.world.proofs.TendedLemmas.{tended_anew, tended_abort_refused}
use Rattle.world.proofs.WorldLemmas.{world_aborted}
use Rattle.world.proofs.worlds.World.abort.Goals as goal

pub invariant_of-self : goal.invariant_of-self
invariant_of-self g c = tended_abort_refused c.self.inside.plain c.abort.new.self c.self.inside.index c.self.inside.walks c.self.inside.kept c.self.invariant c.args.seat c.args.number _ c.in_err-abort.ensures

pub invariant_of-self-2 : goal.invariant_of-self-2
invariant_of-self-2 g c = rw c.end.ensures (tended_anew c.abort.new.self c.self.inside.index (walk_ended c.args.number c.self.inside.walks) c.none-self-inside.result (world_aborted c.args.seat c.args.number c.self.inside.plain c.abort.new.self c.self.inside.index c.self.inside.walks c.in_ok-abort.ensures c.self.invariant.world) c.none-self-inside.ensures)
