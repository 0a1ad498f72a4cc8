use Rattle.std.proofs.Common.{◌≡◌, ◌++◌, take}
use Rattle.policy_text.specs.Pointers.{path_text}
use Rattle.map_calls.proofs.texts.put_path.Given as goal

abbrev pub invariant-loop-part : goal.invariant-loop-part
invariant-loop-part l =
    l.text.items ≡ l.fn.text.items ++ path_text (take l.part-index l.path)
