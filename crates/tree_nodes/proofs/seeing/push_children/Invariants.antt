use Rattle.std.proofs.Common.{take}
use Rattle.tree_theory.specs.Nodes.{entries_of}
use Rattle.tree_nodes.specs.Visits.{HasChildren}
use Rattle.tree_nodes.proofs.seeing.push_children.Given as goal

abbrev pub invariant-loop-i : goal.invariant-loop-i
invariant-loop-i g l = HasChildren g.C.KeyClass.class l.fn.query l.counter (take l.i (entries_of l.node.body)) l.fn.progress l.progress
