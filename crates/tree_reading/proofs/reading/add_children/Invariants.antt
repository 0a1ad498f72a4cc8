use Rattle.std.proofs.Common.{take}
use Rattle.tree_theory.specs.Nodes.{entries_of}
use Rattle.tree_reading.specs.Reading.{LeadsOn}
use Rattle.tree_reading.proofs.reading.add_children.Given as goal

abbrev pub invariant-loop-i : goal.invariant-loop-i
invariant-loop-i g l = LeadsOn g.C.KeyClass.class l.query (take l.i (entries_of l.node.body)) l.fn.left.items l.left.items
