use Rattle.std.proofs.Common.{arith}
use Rattle.judging.proofs.AcceptedLemmas.{distinct_push}
use Rattle.plain_world.proofs.open_transactions.Transaction.push.Goals as goal

pub invariant_of-self : goal.invariant_of-self
invariant_of-self g c =
    let few = rw (← c.self.view_is) at c.requires.few in
    let unnamed = rw (← c.self.view_is) at c.requires.unnamed in
    let cap = c.push_reserved.ensures.capacity in
    let len = c.push_reserved.ensures.len in
    let room = c.self.invariant.0 in (
      omega (arith, room, cap),
      omega (arith, few, len),
      rw c.push_reserved.ensures.items (distinct_push _ _ c.self.invariant.2 unnamed),
    )
