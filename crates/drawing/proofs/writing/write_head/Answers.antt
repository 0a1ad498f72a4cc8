use Rattle.drawing.specs.Pictures.{map_text, start_text}
use Rattle.drawing.proofs.WritingLemmas.{took_first, took_then}
use Rattle.drawing.proofs.writing.write_head.Goals as goal

pub returns-in_err-write_whole : goal.returns-in_err-write_whole
returns-in_err-write_whole g c =
    took_first c.from_residual.result c.from_residual.ensures.0 _ _ start_text (map_text c.args.area) c.in_err-write_whole.ensures

pub returns : goal.returns
returns g c =
    let written = rw (c.as_slice.ensures.value, c.map_start.ensures) at c.write_whole-2.ensures in
    took_then c.write_whole-2.result _ _ _ start_text (map_text c.args.area) c.in_ok-write_whole.ensures written
