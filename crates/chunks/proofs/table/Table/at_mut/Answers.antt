use Rattle.std.proofs.Common.{◌/◌, ◌%◌, ◌<◌, ◌*◌, refl, ◌∙◌, arith}
use Rattle.chunks.specs.Blocks.{with_item}
use Rattle.std.specs.Prelude.{Some, slice_set}
use Rattle.chunks.specs.Tables.{value_at}
use Rattle.chunks.proofs.Elements.{slice_get-first_values, first_values-set}
use Rattle.chunks.proofs.TableLaws.{is_element, has_place, is_in_table, is_filled, found, value_in, value_at-found, value_at-here, value_at-other, IsTable-written, same_listed}
use Rattle.chunks.proofs.table.Table.at_mut.Goals as goal

pub get_mut-requires-clause-within : goal.get_mut-requires-clause-within
get_mut-requires-clause-within g c =
    is_in_table _ _ _ _ c.self.invariant c.args.i (has_place _ _ _ _ c.self.invariant c.args.i (rw (← c.self.view_is) at c.requires))

pub get_mut-requires-clause-filled : goal.get_mut-requires-clause-filled
get_mut-requires-clause-filled g c =
    is_filled _ _ _ _ c.self.invariant c.args.i (has_place _ _ _ _ c.self.invariant c.args.i (rw (← c.self.view_is) at c.requires))

pub get_mut-requires-2-clause-within : goal.get_mut-requires-2-clause-within
get_mut-requires-2-clause-within g c =
    let place = has_place _ _ _ _ c.self.invariant c.args.i (rw (← c.self.view_is) at c.requires) in
    (found _ _ _ _ c.self.invariant c.args.i c.get_mut.result.now place c.get_mut.ensures.value).in_chunk

pub get_mut-requires-2-clause-filled : goal.get_mut-requires-2-clause-filled
get_mut-requires-2-clause-filled g c =
    value_in _ _ _ _ c.self.invariant c.args.i c.get_mut.result.now c.get_mut.ensures.value (is_element _ _ _ _ c.self.invariant c.args.i (rw (← c.self.view_is) at c.requires))

pub invariant_of-self-lent : goal.invariant_of-self-lent
invariant_of-self-lent g c w =
    let below = is_element _ _ _ _ c.self.invariant c.args.i (rw (← c.self.view_is) at c.requires) in
    let place = has_place _ _ _ _ c.self.invariant c.args.i (rw (← c.self.view_is) at c.requires) in
    let chunk = c.get_mut.result.now in
    let at = found _ _ _ _ c.self.invariant c.args.i chunk place c.get_mut.ensures.value in
    IsTable-written _ _ _ _ c.self.invariant c.args.i chunk _ w at refl refl c.self.inside.len (omega arith) below c.self.invariant.within (λ j lt differs. lt)

pub returns : goal.returns
returns g c =
    let below = is_element _ _ _ _ c.self.invariant c.args.i (rw (← c.self.view_is) at c.requires) in
    let place = has_place _ _ _ _ c.self.invariant c.args.i (rw (← c.self.view_is) at c.requires) in
    let items = c.self.inside.chunks.items in
    let chunk = c.get_mut.result.now in
    let at = found _ _ _ _ c.self.invariant c.args.i chunk place c.get_mut.ensures.value in
    let value = value_at-found items c.args.i chunk at.at ∙ c.get_mut-2.ensures.value in (
      (
        refl,
        λ w.
            let new = with_item chunk (c.args.i % 256) (Some w) in
            let here = value_at-here items c.args.i chunk new (Some w) at.in_table at.at at.in_chunk refl in
            let other = value_at-other items c.args.i chunk new (Some w) at.in_table at.at at.in_chunk refl in
            rw (← c.self.view_is) (same_listed _ _ _ _ _ (first_values-set (value_at items) (value_at (slice_set items (c.args.i / 256) (Some new))) c.self.inside.len c.args.i w c.self.invariant.full below here other)),
      ),
      record {
        writes_back = tt;
        value = rw (← c.self.view_is) (slice_get-first_values (value_at items) c.self.inside.len c.args.i _ c.self.invariant.full below value);
      },
    )
