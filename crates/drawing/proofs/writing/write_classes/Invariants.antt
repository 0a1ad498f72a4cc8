use Rattle.std.proofs.Common.{take}
use Rattle.std.specs.Io.KnownBytes.{Appends}
use Rattle.std.specs.List.{flat_map}
use Rattle.drawing.specs.Pictures.{entry_text}
use Rattle.drawing.proofs.writing.write_classes.Given as goal

abbrev pub invariant-loop-class : goal.invariant-loop-class
invariant-loop-class g l =
    Appends (g.W.Write.contents l.fn.writer) (g.W.Write.contents l.writer) (flat_map (entry_text l.classes) (take l.class-index l.classes))
