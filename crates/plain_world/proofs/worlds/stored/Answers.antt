use Rattle.std.proofs.Common.{ℕ, suc, length, take, Err, length-take-le, add-one, arith, refl, sym, ap, ◌∙◌}
use Rattle.std.proofs.lemmas.Option.{slice_get_read}
use Rattle.features.specs.Rows.{feature_with, with_row}
use Rattle.plain_world.proofs.StoredLemmas.{absent_before, put_next}
use Rattle.plain_world.proofs.worlds.stored.Goals as goal

pub apply-requires-clause-can : goal.apply-requires-clause-can
apply-requires-clause-can g c =
    let rows = c.args.rows.now in
    let k = c.loop-row.row-index in
    let there = slice_get_read rows (length rows) k c.row-item.result refl (omega (arith, c.loop-row-test.true)) c.row-item.is in
    (ap (feature_with c.row-item.result.id) c.loop-row.invariant ∙ absent_before rows k c.row-item.result c.requires.sorted there, tt, tt)

pub unreachable-requires : goal.unreachable-requires
unreachable-requires g c =
    let rows = c.args.rows.now in
    let k = c.loop-row.row-index in
    let there = slice_get_read rows (length rows) k c.row-item.result refl (omega (arith, c.loop-row-test.true)) c.row-item.is in
    let long = ap length (ap (with_row c.row-item.result) c.loop-row.invariant ∙ put_next rows k c.row-item.result c.requires.sorted there) ∙ length-take-le (suc k) rows (omega (arith, c.loop-row-test.true)) in
    let over = c.apply.ensures.full.0 (c.in-Err-Full.is ∙ ap Err c.in-Err-Full.field-0-is) in
    omega (arith, long, over, c.requires.few, c.loop-row-test.true)

pub loop-row-preserved : goal.loop-row-preserved
loop-row-preserved g c =
    let rows = c.args.rows.now in
    let k = c.loop-row.row-index in
    let there = slice_get_read rows (length rows) k c.row-item.result refl (omega (arith, c.loop-row-test.true)) c.row-item.is in
    c.in-Ok.ensures.ok ∙ ap (with_row c.row-item.result) c.loop-row.invariant ∙ put_next rows k c.row-item.result c.requires.sorted there ∙ sym (ap (λ (n : ℕ). take n rows) (add-one k))
