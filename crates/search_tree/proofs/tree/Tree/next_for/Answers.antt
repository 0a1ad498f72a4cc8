use Rattle.search_tree.proofs.NextLemmas.{waits_behind}
use Rattle.search_tree.proofs.tree.Tree.next_for.Goals as goal

pub returns-in-Unlinked-clause-first : goal.returns-in-Unlinked-clause-first
returns-in-Unlinked-clause-first g c = rw (← c.self.view_is) (waits_behind _ _ c.self.invariant c.args.at c.in-Unlinked.left c.args.item c.nearest.result (c.standing_at.ensures.unlinked c.in-Unlinked.left c.in-Unlinked.is) (rw (← c.self.view_is) at c.nearest.ensures.first) (rw (← c.self.view_is) at c.nearest.ensures.last))

pub returns-in-Aside-clause-first : goal.returns-in-Aside-clause-first
returns-in-Aside-clause-first g c = rw (← c.self.view_is) (rw c.key_of.ensures at (c.standing_at.ensures.aside c.self.invariant.invariant.shape.children_differ c.in-Aside.parent c.in-Aside.is))
