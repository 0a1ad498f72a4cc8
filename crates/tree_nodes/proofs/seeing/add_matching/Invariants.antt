use Rattle.std.proofs.Common.{take}
use Rattle.tree_nodes.specs.Visits.{HasMatching}
use Rattle.tree_nodes.proofs.seeing.add_matching.Given as goal

abbrev pub invariant-loop-pair : goal.invariant-loop-pair
invariant-loop-pair g l = HasMatching g.C.KeyClass.class l.fn.query (take l.pair-index l.pair-items) l.fn.progress l.progress
