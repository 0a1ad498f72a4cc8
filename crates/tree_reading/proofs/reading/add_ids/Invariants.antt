use Rattle.std.proofs.Common.{take}
use Rattle.tree_reading.specs.Reading.{FindsIn}
use Rattle.tree_reading.proofs.reading.add_ids.Given as goal

abbrev pub invariant-loop-pair : goal.invariant-loop-pair
invariant-loop-pair g l = FindsIn g.C.KeyClass.class l.query (take l.pair-index l.pair-items) l.fn.ids.items l.ids.items
