use Rattle.std.proofs.Common.{◌≡◌, take}
use Rattle.std.specs.List.{flat_map}
use Rattle.importing.specs.Additions.{addition_text}
use Rattle.importing.proofs.additions.list_text.Given as goal

abbrev pub invariant-loop-addition : goal.invariant-loop-addition
invariant-loop-addition g l = l.text.items ≡ flat_map addition_text (take l.addition-index l.list)
