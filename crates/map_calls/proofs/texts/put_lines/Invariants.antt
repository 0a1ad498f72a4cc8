use Rattle.std.proofs.Common.{◌≡◌, ◌++◌, drop, map, string_bytes}
use Rattle.map_calls.specs.Rolling.{lines_text}
use Rattle.map_calls.proofs.texts.put_lines.Given as goal

abbrev pub invariant-loop-line : goal.invariant-loop-line
invariant-loop-line g l =
    l.text.items ++ lines_text (map string_bytes (drop l.line-index l.lines))
    ≡ l.fn.text.items ++ lines_text (map string_bytes l.lines)
