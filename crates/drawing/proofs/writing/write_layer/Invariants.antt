use Rattle.std.proofs.Common.{take}
use Rattle.std.specs.Io.KnownBytes.{Appends}
use Rattle.std.specs.List.{flat_map}
use Rattle.drawing.specs.Pictures.{mark_text_on}
use Rattle.drawing.proofs.writing.write_layer.Given as goal

abbrev pub invariant-loop-mark : goal.invariant-loop-mark
invariant-loop-mark g l =
    Appends (g.W.Write.contents l.fn.writer) (g.W.Write.contents l.writer) (flat_map (mark_text_on l.classes l.layer) (take l.mark-index l.marks))
