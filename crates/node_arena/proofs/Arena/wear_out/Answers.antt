use Rattle.std.proofs.Common.{refl}
use Rattle.std.proofs.lemmas.List.{map-set}
use Rattle.node_arena.proofs.SlotLemmas.{live_at, IsSound-wear_out}
use Rattle.node_arena.proofs.Arena.wear_out.Goals as goal

pub invariant_of-self : goal.invariant_of-self
invariant_of-self g c =
    let found = live_at c.self.inside.first c.self.inside.slots.items c.args.handle (rw (← c.self.view_is) at c.requires.present) in
    rw c.take.ensures.left (IsSound-wear_out _ _ _ _ _ c.args.handle.slot c.args.handle.generation found.0 c.self.invariant found.1)

pub returns-clause-worn_out : goal.returns-clause-worn_out
returns-clause-worn_out g c = rw (← c.self.view_is, c.take.ensures.left, c.requires.last, map-set) refl
