use Rattle.std.proofs.Common.{◌≡◌, ◌++◌, take}
use Rattle.std.specs.List.{flat_map}
use Rattle.map_answers.specs.Collections.{following_feature}
use Rattle.map_answers.proofs.collections.put_all_following.Given as goal

abbrev pub invariant-loop-row : goal.invariant-loop-row
invariant-loop-row g l =
    l.text.items ≡ l.fn.text.items ++ flat_map (following_feature l.grid) (take l.row-index l.rows)
