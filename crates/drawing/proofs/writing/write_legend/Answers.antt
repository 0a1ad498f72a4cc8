use Rattle.std.specs.List.{flat_map}
use Rattle.drawing.specs.Pictures.{around_text, end_text, entry_text}
use Rattle.std.proofs.Common.{◌++◌}
use Rattle.drawing.proofs.WritingLemmas.{took_first, took_then}
use Rattle.drawing.proofs.writing.write_legend.Goals as goal

pub returns-in_err-write_whole : goal.returns-in_err-write_whole
returns-in_err-write_whole g c =
    let written = rw (c.as_slice.ensures.value, c.around.ensures) at c.in_err-write_whole.ensures in
    took_first c.from_residual.result c.from_residual.ensures.0 _ _ (around_text c.args.area) (flat_map (entry_text c.args.classes.now) c.args.classes.now ++ end_text) written

pub returns : goal.returns
returns g c =
    let written = rw (c.as_slice.ensures.value, c.around.ensures) at c.in_ok-write_whole.ensures in
    took_then c.write_end.result _ _ _ (around_text c.args.area) (flat_map (entry_text c.args.classes.now) c.args.classes.now ++ end_text) written c.write_end.ensures
