use Rattle.std.proofs.Common.{refl, arith}
use Rattle.std.proofs.lemmas.List.{map-set}
use Rattle.node_arena.proofs.SlotLemmas.{live_at, IsSound-free}
use Rattle.node_arena.proofs.Arena.free_slot.Goals as goal

pub invariant_of-self : goal.invariant_of-self
invariant_of-self g c =
    let found = live_at c.self.inside.first c.self.inside.slots.items c.args.handle (rw (← c.self.view_is) at c.requires.present) in
    let fits = c.ranges.generation.fits in
    rw (c.take.ensures.left, c.requires.next) (IsSound-free _ _ _ _ _ c.args.handle.slot c.args.handle.generation found.0 c.self.invariant found.1 (omega arith))

pub returns-clause-freed : goal.returns-clause-freed
returns-clause-freed g c = rw (← c.self.view_is, c.take.ensures.left, c.requires.next, map-set) refl
