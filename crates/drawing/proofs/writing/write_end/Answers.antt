use Rattle.std.specs.List.{flat_map}
use Rattle.drawing.specs.Pictures.{end_text, entry_text}
use Rattle.drawing.proofs.WritingLemmas.{took_first, took_then}
use Rattle.drawing.proofs.writing.write_end.Goals as goal

pub returns-in_err-write_classes : goal.returns-in_err-write_classes
returns-in_err-write_classes g c =
    took_first c.from_residual.result c.from_residual.ensures.0 _ _ (flat_map (entry_text c.args.classes.now) c.args.classes.now) end_text c.in_err-write_classes.ensures

pub returns : goal.returns
returns g c =
    took_then c.write_whole.result _ _ _ (flat_map (entry_text c.args.classes.now) c.args.classes.now) end_text c.in_ok-write_classes.ensures c.write_whole.ensures
