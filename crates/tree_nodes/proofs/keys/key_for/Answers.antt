use Rattle.tree_nodes.proofs.UnionLemmas.{body_key_leaf, body_key_inner}
use Rattle.tree_nodes.proofs.keys.key_for.Goals as goal

pub returns-then-is_leaf : goal.returns-then-is_leaf
returns-then-is_leaf g c =
    let leaf = c.is_leaf.ensures.leaf c.if-is_leaf.true in
    body_key_leaf _ c.args.node.now.body leaf.0 c.args.old c.union_of_items.result leaf.1 (rw c.pairs.ensures.value at c.union_of_items.ensures)

pub returns-else-is_leaf : goal.returns-else-is_leaf
returns-else-is_leaf g c =
    let inner = c.is_leaf.ensures.inner c.if-is_leaf.false in
    body_key_inner _ c.args.node.now.body inner.0 c.args.old c.union_of.result inner.1 (rw c.keys.ensures.value at c.union_of.ensures)
