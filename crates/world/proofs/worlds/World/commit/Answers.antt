use Rattle.world.specs.Walks.{walk_ended}
use Rattle.world.proofs.TendedLemmas.{tended_anew, tended_commit_refused}
use Rattle.world.proofs.WorldLemmas.{world_committed}
use Rattle.world.proofs.worlds.World.commit.Goals as goal

pub invariant_of-self : goal.invariant_of-self
invariant_of-self g c = tended_commit_refused c.self.inside.plain c.commit.new.self c.self.inside.index c.self.inside.walks c.self.inside.kept c.self.invariant c.args.seat c.args.number _ c.in_err-outcome.ensures

pub invariant_of-self-2 : goal.invariant_of-self-2
invariant_of-self-2 g c = rw c.end.ensures (tended_anew c.commit.new.self c.self.inside.index (walk_ended c.args.number c.self.inside.walks) c.none-self-inside.result (world_committed c.args.seat c.args.number c.self.inside.plain c.commit.new.self c.self.inside.index c.self.inside.walks c.in_ok-outcome.outcome c.in_ok-outcome.ensures c.self.invariant.world) c.none-self-inside.ensures)
