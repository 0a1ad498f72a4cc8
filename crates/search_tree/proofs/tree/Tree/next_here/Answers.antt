use Rattle.std.proofs.Common.{sym}
use Rattle.search_tree.proofs.NextLemmas.{leaf_here}
use Rattle.search_tree.proofs.tree.Tree.next_here.Goals as goal

pub next_at_leaf-requires : goal.next_at_leaf-requires
next_at_leaf-requires g c = rw (← c.self.view_is) (leaf_here _ _ c.self.invariant c.args.at c.args.item c.in-Some.node.now (sym c.in-Some.ensures.value) (rw (← c.self.view_is) at c.requires) (c.is_leaf.ensures.leaf c.if-is_leaf.true))

pub best_way-requires-clause-inner : goal.best_way-requires-clause-inner
best_way-requires-clause-inner g c = rw (← c.self.view_is) (c.in-Some.node.now, sym c.in-Some.ensures.value, c.is_leaf.ensures.inner c.if-is_leaf.false)
