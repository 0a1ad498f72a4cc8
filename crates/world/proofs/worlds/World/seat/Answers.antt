use Rattle.plain_world.specs.Events.{Number, reply_of}
use Rattle.world.proofs.TendedLemmas.{tended_seat}
use Rattle.world.proofs.worlds.World.seat.Goals as goal

pub invariant_of-self : goal.invariant_of-self
invariant_of-self g c = tended_seat c.self.inside.plain c.seat.new.self c.self.inside.index c.self.inside.walks c.self.inside.kept c.self.invariant c.args.name (reply_of Number c.seat.result) c.seat.ensures.happens
