use Rattle.std.proofs.Common.{take}
use Rattle.tree_nodes.proofs.Sharing.{IsSharedUpTo}
use Rattle.tree_nodes.proofs.halves.share_pairs.Given as goal

abbrev pub invariant-loop-place : goal.invariant-loop-place
invariant-loop-place g l = IsSharedUpTo l.mask l.place (take l.place l.pairs) l.left l.right
