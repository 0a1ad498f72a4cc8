use Rattle.std.proofs.Common.{take}
use Rattle.tree_nodes.specs.NewNodes.{HasAdopted}
use Rattle.tree_nodes.proofs.setters.adopt.Given as goal

abbrev pub invariant-loop-child : goal.invariant-loop-child
invariant-loop-child g l = HasAdopted l.fn.nodes l.nodes (take l.child-index l.children) l.parent
