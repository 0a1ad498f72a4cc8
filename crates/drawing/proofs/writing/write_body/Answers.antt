use Rattle.std.specs.List.{flat_map}
use Rattle.drawing.specs.Layers.{layers}
use Rattle.drawing.specs.Pictures.{layer_text, legend_text}
use Rattle.drawing.proofs.WritingLemmas.{took_first, took_then}
use Rattle.drawing.proofs.writing.write_body.Goals as goal

pub returns-in_err-write_layers : goal.returns-in_err-write_layers
returns-in_err-write_layers g c =
    let written = rw (c.as_slice.ensures, c.all_layers.ensures) at c.in_err-write_layers.ensures in
    took_first c.from_residual.result c.from_residual.ensures.0 _ _ (flat_map (layer_text c.args.classes.now c.args.marks.now) layers) (legend_text c.args.area c.args.classes.now) written

pub returns : goal.returns
returns g c =
    let written = rw (c.as_slice.ensures, c.all_layers.ensures) at c.in_ok-write_layers.ensures in
    took_then c.write_legend.result _ _ _ (flat_map (layer_text c.args.classes.now c.args.marks.now) layers) (legend_text c.args.area c.args.classes.now) written c.write_legend.ensures
