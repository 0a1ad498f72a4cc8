use Rattle.std.proofs.Common.{take}
use Rattle.tree_nodes.proofs.UnionLemmas.{IsUnionUpTo}
use Rattle.tree_nodes.proofs.keys.union_of.Given as goal

abbrev pub invariant-loop-key : goal.invariant-loop-key
invariant-loop-key g l = IsUnionUpTo g.C.KeyClass.class l.keys (take l.key-index l.keys) l.union
