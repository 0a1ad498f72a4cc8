use Rattle.std.proofs.Common.{◌≤◌, ◌-◌}
use Rattle.node_arena.specs.Slots.{value_at}
use Rattle.search_tree.specs.Finding.{Sees}
use Rattle.search_tree.proofs.finding.see_all.Given as goal

abbrev pub invariant-loop-next : goal.invariant-loop-next
invariant-loop-next g l = record {
  within : l.seen ≤ 128;
  sees : Sees g.C.KeyClass.class l.number l.item (value_at l.nodes) l.fn.root l.left.items l.slots.items;
}

abbrev pub decreases-loop-next : goal.decreases-loop-next
decreases-loop-next g l = 128 - l.seen
