use Rattle.std.proofs.Common.{take, zip}
use Rattle.tree_nodes.proofs.Sharing.{IsSharedUpTo}
use Rattle.tree_nodes.proofs.halves.share_entries.Given as goal

abbrev pub invariant-loop-place : goal.invariant-loop-place
invariant-loop-place g l = IsSharedUpTo l.mask l.place (take l.place (zip l.keys l.children)) l.left l.right
