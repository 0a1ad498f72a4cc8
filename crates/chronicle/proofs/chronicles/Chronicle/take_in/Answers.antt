use Rattle.std.specs.Arc.{arc_value}
use Rattle.chronicle.proofs.NotingLemmas.{held_taken}
use Rattle.chronicle.proofs.chronicles.Chronicle.take_in.Goals as goal

pub invariant_of-self : goal.invariant_of-self
invariant_of-self g c =
    held_taken (arc_value c.args.entry) c.self.inside.world.plain c.take_in.new.self.plain c.take_in.result _ _ c.self.inside.changed
    c.take_in.ensures.ok c.take_in.ensures.err c.self.invariant
