use Rattle.drawing.specs.Pictures.{mark_text_on}
use Rattle.drawing.proofs.WritingLemmas.{items_failed, items_more}
use Rattle.drawing.proofs.writing.write_layer.Goals as goal

pub returns-in_err-write_mark_on : goal.returns-in_err-write_mark_on
returns-in_err-write_mark_on g c =
    items_failed (mark_text_on c.args.classes.now c.args.layer.now) c.from_residual.result c.from_residual.ensures.0 c.args.marks.now c.loop-mark.mark-index c.mark-item.result _ _ _ _ c.loop-mark-test.true c.mark-item.is c.loop-mark.invariant c.in_err-write_mark_on.ensures

pub loop-mark-preserved : goal.loop-mark-preserved
loop-mark-preserved g c =
    items_more (mark_text_on c.args.classes.now c.args.layer.now) c.args.marks.now c.loop-mark.mark-index c.mark-item.result _ _ _ _ c.loop-mark-test.true c.mark-item.is c.loop-mark.invariant c.in_ok-write_mark_on.ensures
