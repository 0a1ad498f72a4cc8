use Rattle.std.proofs.Common.{◌*◌, ◌<◌, arith}
use Rattle.chunks.proofs.TableLaws.{chunks_full, IsTable-wider}
use Rattle.chunks.proofs.table.Table.make_room.Goals as goal

pub widen-requires-clause-full : goal.widen-requires-clause-full
widen-requires-clause-full g c = chunks_full _ _ _ _ c.self.invariant

pub invariant_of-self-2 : goal.invariant_of-self-2
invariant_of-self-2 g c =
    let wider = c.min-wider.ensures in
    let ok = c.in_ok-widen.ensures.ok in
    IsTable-wider _ _ _ _ c.self.invariant c.widen.new.block c.min-wider.result ok.0 ok.1 (omega (arith, wider, c.self.invariant.counted, c.self.invariant.limit)) (omega (arith, wider, c.self.invariant.has_room)) (omega (arith, wider)) ok.2

pub returns-clause-ok : goal.returns-clause-ok
returns-clause-ok g c =
    let limit : c.self.inside.count * 256 < 1048576 = rw (← c.self.view_is) at c.requires.limit in
    omega (arith, limit, c.min-wider.ensures, c.self.invariant.has_room, c.self.invariant.counted, c.if-self.false)
