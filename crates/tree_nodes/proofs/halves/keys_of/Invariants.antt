use Rattle.std.proofs.Common.{◌≡◌, ◌≤◌, map, take, vec_capacity}
use Rattle.tree_theory.specs.declared.TheConstants.{NODE_SIZE}
use Rattle.tree_nodes.proofs.halves.keys_of.Given as goal

abbrev pub invariant-loop-pair : goal.invariant-loop-pair
invariant-loop-pair g l = (l.keys.items ≡ map (λ pair. g.C.KeyClass.class.key_of pair.1) (take l.pair-index l.pairs)) × (NODE_SIZE ≤ vec_capacity l.keys)
