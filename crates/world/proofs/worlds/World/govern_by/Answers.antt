use Rattle.std.specs.Arc.{arc_value}
use Rattle.plain_world.specs.Events.{Number, reply_of}
use Rattle.world.proofs.TendedLemmas.{tended_govern}
use Rattle.world.proofs.worlds.World.govern_by.Goals as goal

pub invariant_of-self : goal.invariant_of-self
invariant_of-self g c = tended_govern c.self.inside.plain c.govern_by.new.self c.self.inside.index c.self.inside.walks c.self.inside.kept c.self.invariant c.args.seat (arc_value c.args.decider).document (reply_of Number c.govern_by.result) c.govern_by.ensures
