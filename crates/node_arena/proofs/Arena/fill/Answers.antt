use Rattle.std.proofs.Common.{None, refl, sym, arith}
use Rattle.std.proofs.lemmas.List.{length-map, map-set}
use Rattle.std.proofs.lemmas.Option.{slice_get_within, get_or_from_slice_get}
use Rattle.node_arena.specs.Slot.{seen}
use Rattle.node_arena.proofs.SlotLemmas.{next_is_free, read_link, seen_at, in_range_at, IsSound-fill}
use Rattle.node_arena.proofs.Arena.fill.Goals as goal

pub invariant_of-self : goal.invariant_of-self
invariant_of-self g c =
    let link = read_link _ _ _ _ _ c.in-Some.slot _ _ _ c.self.invariant c.in-Some.is (sym (get_or_from_slice_get _ c.in-Some.slot _ _ c.at_mut.ensures.value)) c.fill-generation.ensures.was in
    rw c.fill-generation.ensures.filled (IsSound-fill _ _ _ _ _ c.in-Some.slot _ _ c.args.value c.self.invariant link)

pub returns-clause-was_free : goal.returns-clause-was_free
returns-clause-was_free g c =
    let link = read_link _ _ _ _ _ c.in-Some.slot _ _ _ c.self.invariant c.in-Some.is (sym (get_or_from_slice_get _ c.in-Some.slot _ _ c.at_mut.ensures.value)) c.fill-generation.ensures.was in
    rw (← c.self.view_is) (seen_at _ c.in-Some.slot _ (c.self.inside.first, None) link.found)

pub returns-clause-within : goal.returns-clause-within
returns-clause-within g c =
    let link = read_link _ _ _ _ _ c.in-Some.slot _ _ _ c.self.invariant c.in-Some.is (sym (get_or_from_slice_get _ c.in-Some.slot _ _ c.at_mut.ensures.value)) c.fill-generation.ensures.was in
    rw (← c.self.view_is) (omega (arith, length-map c.self.inside.slots.items seen, slice_get_within _ c.in-Some.slot _ link.found))

pub returns-clause-filled : goal.returns-clause-filled
returns-clause-filled g c = rw (← c.self.view_is, c.fill-generation.ensures.filled, map-set) refl

pub returns-clause-begun : goal.returns-clause-begun
returns-clause-begun g c =
    let link = read_link _ _ _ _ _ c.in-Some.slot _ _ _ c.self.invariant c.in-Some.is (sym (get_or_from_slice_get _ c.in-Some.slot _ _ c.at_mut.ensures.value)) c.fill-generation.ensures.was in
    let range = in_range_at _ _ c.in-Some.slot _ _ _ _ c.self.invariant link.found in
    rw (← c.self.view_is) (omega (arith, range.0))

pub fill-generation-requires : goal.fill-generation-requires
fill-generation-requires g c = next_is_free _ _ _ _ _ c.in-Some.slot _ c.self.invariant c.in-Some.is (sym (get_or_from_slice_get _ c.in-Some.slot _ _ c.at_mut.ensures.value))
