use Rattle.std.proofs.Common.{take}
use Rattle.tree_theory.specs.Nodes.{entries_of}
use Rattle.search_tree.specs.Finding.{AddsCovering}
use Rattle.search_tree.proofs.finding.add_children.Given as goal

abbrev pub invariant-loop-i : goal.invariant-loop-i
invariant-loop-i g l = AddsCovering g.C.KeyClass.class l.key (take l.i (entries_of l.node.body)) l.fn.left.items l.left.items
