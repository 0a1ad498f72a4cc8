use Rattle.std.proofs.Common.{arith, sym, drop, ◌+◌, ◌∙◌}
use Rattle.std.proofs.lemmas.List.{drop_more}
use Rattle.features.specs.Changes.{additions}
use Rattle.kept_shapes.specs.Rings.{rings_in}
use Rattle.feature_store.proofs.ChangeLemmas.{stepped, additions_first, room_for_less}
use Rattle.feature_store.proofs.stores.make_all.Goals as goal

pub loop-change-preserved : goal.loop-change-preserved
loop-change-preserved g c =
    let i = c.loop-change.change-index in
    let left = drop_more c.args.changes.now i c.change-item.result c.loop-change-test.true in
    let here = sym c.change-item.is in
    let all = rw (left, here) at c.loop-change.invariant.told in
    let can = rw (left, here) at c.loop-change.invariant.can_apply in
    let room = rw (left, here) at c.loop-change.invariant.room in
    let rest = drop (i + 1) c.args.changes.now in
    let step = stepped c.args.version c.args.office c.change-item.result _ _ _ can c.make.ensures.rows in
    record {
      sound = c.make.ensures.sound;
      can_apply = step.can_apply;
      room = c.make.ensures.room (additions rest) (room_for_less _ _ _ (omega (arith, additions_first c.change-item.result rest)) room);
      rings = c.make.ensures.left (rings_in rest) (rw (left, here) at c.loop-change.invariant.rings);
      told = step.told ∙ all;
    }

pub make-requires-clause-rings : goal.make-requires-clause-rings
make-requires-clause-rings g c =
    let left = drop_more c.args.changes.now c.loop-change.change-index c.change-item.result c.loop-change-test.true in
    let here = sym c.change-item.is in
    record {
      rest = rings_in (drop (c.loop-change.change-index + 1) c.args.changes.now);
      told = rw (left, here) at c.loop-change.invariant.rings;
    }
