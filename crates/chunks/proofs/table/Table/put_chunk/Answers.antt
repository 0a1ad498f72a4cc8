use Rattle.std.proofs.Common.{◌+◌, ◌<◌, ◌*◌, refl, arith}
use Rattle.std.specs.Prelude.{Some, slice_set}
use Rattle.chunks.specs.Tables.{value_at}
use Rattle.chunks.proofs.Elements.{first_values-same}
use Rattle.chunks.proofs.TableLaws.{IsTable-chunk, value_at-chunk}
use Rattle.chunks.proofs.table.Table.put_chunk.Goals as goal

pub invariant_of-self : goal.invariant_of-self
invariant_of-self g c =
    let room : c.self.inside.count * 256 < c.self.inside.room * 256 = rw (← c.self.view_is) at c.requires.room in
    let empty = rw (← c.self.view_is) at c.requires.empty in
    rw c.put.ensures (IsTable-chunk _ _ _ _ c.self.invariant c.args.chunk (omega arith) empty.0 empty.1)

pub returns-clause-rest : goal.returns-clause-rest
returns-clause-rest g c =
    let room : c.self.inside.count * 256 < c.self.inside.room * 256 = rw (← c.self.view_is) at c.requires.room in
    let empty = rw (← c.self.view_is) at c.requires.empty in
    let items = c.self.inside.chunks.items in
    let count = c.self.inside.count in
    let same = value_at-chunk items count c.args.chunk (omega (arith, c.self.invariant.size)) (c.self.invariant.no_more count (omega arith)) empty.1 in
    rw (← c.self.view_is, c.put.ensures) (refl, first_values-same (value_at (slice_set items count (Some c.args.chunk))) (value_at items) c.self.inside.len (λ j lt. same j))
