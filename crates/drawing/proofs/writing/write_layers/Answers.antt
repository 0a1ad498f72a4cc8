use Rattle.std.proofs.Common.{refl}
use Rattle.drawing.specs.Pictures.{layer_text}
use Rattle.drawing.proofs.WritingLemmas.{items_failed, items_more}
use Rattle.drawing.proofs.writing.write_layers.Goals as goal

pub returns-in_err-write_layer : goal.returns-in_err-write_layer
returns-in_err-write_layer g c =
    items_failed (layer_text c.args.classes.now c.args.marks.now) c.from_residual.result c.from_residual.ensures.0 c.args.layers.now c.loop-layer.layer-index _ _ _ _ _ c.loop-layer-test.true refl c.loop-layer.invariant c.in_err-write_layer.ensures

pub loop-layer-preserved : goal.loop-layer-preserved
loop-layer-preserved g c =
    items_more (layer_text c.args.classes.now c.args.marks.now) c.args.layers.now c.loop-layer.layer-index _ _ _ _ _ c.loop-layer-test.true refl c.loop-layer.invariant c.in_ok-write_layer.ensures
