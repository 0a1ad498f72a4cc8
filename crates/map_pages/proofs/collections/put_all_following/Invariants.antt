use Rattle.std.proofs.Common.{◌≡◌, ◌++◌, take}
use Rattle.std.specs.List.{flat_map}
use Rattle.map_pages.specs.Collections.{following_collection}
use Rattle.map_pages.proofs.collections.put_all_following.Given as goal

abbrev pub invariant-loop-class : goal.invariant-loop-class
invariant-loop-class g l =
    l.text.items ≡ l.fn.text.items ++ flat_map (following_collection l.base l.grid) (take l.class-index l.classes)
