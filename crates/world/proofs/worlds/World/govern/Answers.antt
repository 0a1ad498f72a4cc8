use Rattle.plain_world.specs.Events.{Number, reply_handing}
use Rattle.world.proofs.TendedLemmas.{tended_govern}
use Rattle.world.proofs.worlds.World.govern.Goals as goal

pub invariant_of-self : goal.invariant_of-self
invariant_of-self g c = tended_govern c.self.inside.plain c.govern.new.self c.self.inside.index c.self.inside.walks c.self.inside.kept c.self.invariant c.args.seat c.args.document (reply_handing Number c.govern.result) c.govern.ensures.happens
