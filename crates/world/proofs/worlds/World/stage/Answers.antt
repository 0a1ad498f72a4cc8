use Rattle.plain_world.specs.Events.{Done, reply_of}
use Rattle.world.proofs.TendedLemmas.{tended_stage}
use Rattle.world.proofs.worlds.World.stage.Goals as goal

pub invariant_of-self : goal.invariant_of-self
invariant_of-self g c = tended_stage c.self.inside.plain c.stage.new.self c.self.inside.index c.self.inside.walks c.self.inside.kept c.self.invariant c.args.seat c.args.number c.args.change (reply_of (λ _. Done) c.stage.result) c.stage.ensures
