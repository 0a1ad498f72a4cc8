use Rattle.drawing.specs.Pictures.{entry_text}
use Rattle.drawing.proofs.WritingLemmas.{items_failed, items_more}
use Rattle.drawing.proofs.writing.write_classes.Goals as goal

pub returns-in_err-write_class : goal.returns-in_err-write_class
returns-in_err-write_class g c =
    items_failed (entry_text c.args.classes.now) c.from_residual.result c.from_residual.ensures.0 c.args.classes.now c.loop-class.class-index c.class-item.result _ _ _ _ c.loop-class-test.true c.class-item.is c.loop-class.invariant c.in_err-write_class.ensures

pub loop-class-preserved : goal.loop-class-preserved
loop-class-preserved g c =
    items_more (entry_text c.args.classes.now) c.args.classes.now c.loop-class.class-index c.class-item.result _ _ _ _ c.loop-class-test.true c.class-item.is c.loop-class.invariant c.in_ok-write_class.ensures
