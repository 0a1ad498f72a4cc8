use Rattle.std.proofs.Common.{map, take}
use Rattle.tree_nodes.proofs.UnionLemmas.{IsUnionUpTo}
use Rattle.tree_nodes.proofs.keys.union_of_items.Given as goal

abbrev pub invariant-loop-pair : goal.invariant-loop-pair
invariant-loop-pair g l = IsUnionUpTo g.C.KeyClass.class (map (λ pair. g.C.KeyClass.class.key_of pair.1) l.pairs) (map (λ pair. g.C.KeyClass.class.key_of pair.1) (take l.pair-index l.pairs)) l.union
