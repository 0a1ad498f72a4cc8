use Rattle.std.proofs.Common.{◌≡◌, ◌++◌, take}
use Rattle.map_answers.specs.Strings.{escaped}
use Rattle.map_answers.proofs.texts.put_escaped.Given as goal

abbrev pub invariant-loop-byte : goal.invariant-loop-byte
invariant-loop-byte g l =
    l.text.items ≡ l.fn.text.items ++ escaped (take l.byte-index l.bytes)
