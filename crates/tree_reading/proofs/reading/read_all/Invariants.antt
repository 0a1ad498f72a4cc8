use Rattle.std.proofs.Common.{◌≤◌, ◌-◌}
use Rattle.node_arena.specs.Slots.{value_at}
use Rattle.tree_reading.specs.Reading.{Reads}
use Rattle.tree_reading.proofs.reading.read_all.Given as goal

abbrev pub invariant-loop-at : goal.invariant-loop-at
invariant-loop-at g l = record {
  within : l.steps ≤ l.limit;
  reads : Reads g.C.KeyClass.class l.query (value_at l.nodes) l.fn.root l.left.items l.ids.items;
}

abbrev pub decreases-loop-at : goal.decreases-loop-at
decreases-loop-at g l = l.limit - l.steps
