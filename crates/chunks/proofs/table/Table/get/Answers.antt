use Rattle.std.proofs.Common.{◌∙◌}
use Rattle.chunks.specs.Tables.{value_at}
use Rattle.chunks.proofs.Elements.{slice_get-first_values}
use Rattle.chunks.proofs.TableLaws.{is_element, has_place, is_in_table, is_filled, found, value_in, value_at-found}
use Rattle.chunks.proofs.table.Table.get.Goals as goal

pub get-requires-clause-within : goal.get-requires-clause-within
get-requires-clause-within g c =
    is_in_table _ _ _ _ c.self.invariant c.args.i (has_place _ _ _ _ c.self.invariant c.args.i (rw (← c.self.view_is) at c.requires))

pub get-requires-clause-filled : goal.get-requires-clause-filled
get-requires-clause-filled g c =
    is_filled _ _ _ _ c.self.invariant c.args.i (has_place _ _ _ _ c.self.invariant c.args.i (rw (← c.self.view_is) at c.requires))

pub get-requires-2-clause-within : goal.get-requires-2-clause-within
get-requires-2-clause-within g c =
    let place = has_place _ _ _ _ c.self.invariant c.args.i (rw (← c.self.view_is) at c.requires) in
    (found _ _ _ _ c.self.invariant c.args.i c.get.result.now place c.get.ensures).in_chunk

pub get-requires-2-clause-filled : goal.get-requires-2-clause-filled
get-requires-2-clause-filled g c =
    value_in _ _ _ _ c.self.invariant c.args.i c.get.result.now c.get.ensures (is_element _ _ _ _ c.self.invariant c.args.i (rw (← c.self.view_is) at c.requires))

pub returns : goal.returns
returns g c =
    let below = is_element _ _ _ _ c.self.invariant c.args.i (rw (← c.self.view_is) at c.requires) in
    let items = c.self.inside.chunks.items in
    rw (← c.self.view_is) (slice_get-first_values (value_at items) c.self.inside.len c.args.i _ c.self.invariant.full below (value_at-found items c.args.i c.get.result.now c.get.ensures ∙ c.get-2.ensures))
