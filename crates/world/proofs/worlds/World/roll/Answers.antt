use Rattle.std.specs.Arc.{arc_value}
use Rattle.plain_world.specs.Events.{TakenOut, reply_of}
use Rattle.world.proofs.TendedLemmas.{tended_roll}
use Rattle.world.proofs.worlds.World.roll.Goals as goal

pub invariant_of-self : goal.invariant_of-self
invariant_of-self g c = tended_roll c.self.inside.plain c.roll.new.self c.self.inside.index c.self.inside.walks c.self.inside.kept c.self.invariant c.args.seat (reply_of (λ piece. TakenOut (arc_value piece)) c.roll.result) c.roll.ensures
