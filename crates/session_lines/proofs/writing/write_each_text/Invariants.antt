use Rattle.std.proofs.Common.{take, string_bytes}
use Rattle.std.specs.Io.KnownBytes.{Appends}
use Rattle.std.specs.List.{flat_map}
use Rattle.session_lines.specs.Printed.{led}
use Rattle.session_lines.proofs.writing.write_each_text.Given as goal

abbrev pub invariant-loop-text : goal.invariant-loop-text
invariant-loop-text g l =
    Appends (g.W.Write.contents l.fn.writer) (g.W.Write.contents l.writer) (flat_map (λ text. led l.lead (string_bytes text)) (take l.text-index l.texts))
