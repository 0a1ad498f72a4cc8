use Rattle.std.specs.Arc.{arc_value}
use Rattle.world.proofs.TendedLemmas.{tended_taken}
use Rattle.world.proofs.worlds.World.take_in.Goals as goal

pub invariant_of-self : goal.invariant_of-self
invariant_of-self g c = tended_taken c.self.inside.plain c.take_in.new.self c.self.inside.index c.self.inside.walks c.self.inside.kept c.self.invariant (arc_value c.args.entry) c.take_in.result c.take_in.ensures.ok c.take_in.ensures.err
