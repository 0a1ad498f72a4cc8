use Rattle.std.proofs.Common.{◌/◌, ◌%◌, ◌+◌, ◌<◌, refl, ◌∙◌, arith}
use Rattle.std.specs.Prelude.{Some, slice_set}
use Rattle.chunks.specs.Blocks.{with_item}
use Rattle.chunks.specs.Tables.{value_at}
use Rattle.chunks.proofs.Elements.{first_values-push}
use Rattle.chunks.proofs.TableLaws.{has_next, is_in_table, is_filled, found, value_at-here, value_at-other, IsTable-written}
use Rattle.chunks.proofs.table.Table.push.Goals as goal

pub get_mut-requires-clause-within : goal.get_mut-requires-clause-within
get_mut-requires-clause-within g c =
    is_in_table _ _ _ _ c.self.invariant c.self.inside.len (has_next _ _ _ _ c.self.invariant (rw (← c.self.view_is) at c.requires))

pub get_mut-requires-clause-filled : goal.get_mut-requires-clause-filled
get_mut-requires-clause-filled g c =
    is_filled _ _ _ _ c.self.invariant c.self.inside.len (has_next _ _ _ _ c.self.invariant (rw (← c.self.view_is) at c.requires))

pub put-requires-clause-within : goal.put-requires-clause-within
put-requires-clause-within g c =
    let place = has_next _ _ _ _ c.self.invariant (rw (← c.self.view_is) at c.requires) in
    (found _ _ _ _ c.self.invariant c.self.inside.len c.get_mut.result.now place c.get_mut.ensures.value).in_chunk

pub invariant_of-self : goal.invariant_of-self
invariant_of-self g c =
    let place = has_next _ _ _ _ c.self.invariant (rw (← c.self.view_is) at c.requires) in
    let len = c.self.inside.len in
    let chunk = c.get_mut.result.now in
    let at = found _ _ _ _ c.self.invariant len chunk place c.get_mut.ensures.value in
    rw c.put.ensures (IsTable-written _ _ _ _ c.self.invariant len chunk _ c.args.value at refl refl (len + 1) (omega arith) (omega arith) (omega (arith, place)) (λ j lt differs. omega arith))

pub returns-clause-items : goal.returns-clause-items
returns-clause-items g c =
    let place = has_next _ _ _ _ c.self.invariant (rw (← c.self.view_is) at c.requires) in
    let len = c.self.inside.len in
    let items = c.self.inside.chunks.items in
    let chunk = c.get_mut.result.now in
    let new = with_item chunk (len % 256) (Some c.args.value) in
    let at = found _ _ _ _ c.self.invariant len chunk place c.get_mut.ensures.value in
    let here = value_at-here items len chunk new (Some c.args.value) at.in_table at.at at.in_chunk refl in
    let other = value_at-other items len chunk new (Some c.args.value) at.in_table at.at at.in_chunk refl in
    rw (← c.self.view_is, c.put.ensures) (first_values-push (value_at items) (value_at (slice_set items (len / 256) (Some new))) len c.args.value here other)
