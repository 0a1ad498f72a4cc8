use Rattle.std.proofs.Common.{◌≡◌, Some, None, refl, sym, ap, ◌∙◌}
use Rattle.std.proofs.lemmas.List.{map-set}
use Rattle.std.proofs.lemmas.Option.{same_Some}
use Rattle.node_arena.specs.declared.slot.Slot.TheVariants.{Live}
use Rattle.node_arena.specs.Slot.{value_of}
use Rattle.node_arena.specs.Slots.{slot_at}
use Rattle.node_arena.proofs.ArenaLaws.{last_from_value}
use Rattle.node_arena.proofs.SlotLemmas.{live_at, seen_at, IsSound-rewrite}
use Rattle.node_arena.proofs.Arena.value_mut.Goals as goal

pub invariant_of-self-lent : goal.invariant_of-self-lent
invariant_of-self-lent g c w =
    let found = live_at c.self.inside.first c.self.inside.slots.items c.args.handle (rw (← c.self.view_is) at c.requires) in
    let read : c.at_mut.result.now ≡ Live c.args.handle.generation found.0 = same_Some _ _ (sym c.at_mut.ensures.value ∙ found.1) in
    rw read (IsSound-rewrite _ _ _ _ _ c.args.handle.slot c.args.handle.generation found.0 w c.self.invariant found.1)

pub returns : goal.returns
returns g c =
    let found = live_at c.self.inside.first c.self.inside.slots.items c.args.handle (rw (← c.self.view_is) at c.requires) in
    let read : c.at_mut.result.now ≡ Live c.args.handle.generation found.0 = same_Some _ _ (sym c.at_mut.ensures.value ∙ found.1) in
    let held : (slot_at c.args.self.now c.args.handle.slot).1 ≡ Some found.0 = rw (← c.self.view_is) (ap (λ slot. slot.1) (seen_at c.self.inside.slots.items c.args.handle.slot _ (c.self.inside.first, None) found.1)) in (
      (refl, λ w. rw (← c.self.view_is, read, map-set) refl),
      record { writes_back = tt; value = (last_from_value c.args.self.now c.args.handle c.requires).1 ∙ held ∙ ap value_of (sym read) ∙ c.value_mut.ensures.value },
    )
