use Rattle.std.proofs.Common.{◌≡◌, ◌++◌, take}
use Rattle.std.specs.List.{flat_map}
use Rattle.manual.specs.Spelling.{spelled}
use Rattle.manual.proofs.texts.put_spelled.Given as goal

abbrev pub invariant-loop-byte : goal.invariant-loop-byte
invariant-loop-byte g l = l.page.items ≡ l.fn.page.items ++ flat_map (spelled l.style) (take l.byte-index l.byte-items)
