use Rattle.std.proofs.Common.{◌≡◌, [], take, drop}
use Rattle.map_lists.specs.Reading.{again_from}
use Rattle.map_lists.proofs.distinct.first_again.Given as goal

abbrev pub invariant-loop-index : goal.invariant-loop-index
invariant-loop-index l =
    again_from [] 0 l.changes ≡ again_from (take l.index l.changes) l.index (drop l.index l.changes)
