use Rattle.chronicle.proofs.EventLemmas.{begins}
use Rattle.chronicle.proofs.chronicles.Chronicle.of.Goals as goal

pub invariant_of-result : goal.invariant_of-result
invariant_of-result g c = rw (c.of-opened.ensures, c.new.ensures.items) (begins c.args.world.plain c.requires.records)
