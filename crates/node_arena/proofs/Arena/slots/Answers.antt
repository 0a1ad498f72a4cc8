use Rattle.std.proofs.Common.{arith}
use Rattle.node_arena.proofs.SlotLemmas.{first_given_out, used_from_value}
use Rattle.node_arena.proofs.Arena.slots.Goals as goal

pub returns-clause-given_out : goal.returns-clause-given_out
returns-clause-given_out g c =
    rw (← c.self.view_is) (λ slot below. (omega arith, first_given_out _ _ _ _ _ c.self.invariant slot (omega arith)))

pub returns-clause-used : goal.returns-clause-used
returns-clause-used g c = rw (← c.self.view_is) (used_from_value _ _ _ _ _ c.self.invariant)
