use Rattle.std.proofs.Common.{sym}
use Rattle.search_tree.proofs.NextLemmas.{place_may, place_next, wait_next}
use Rattle.search_tree.proofs.tree.Tree.next_when_free.Goals as goal

pub returns-then-not-is_full-clause-may : goal.returns-then-not-is_full-clause-may
returns-then-not-is_full-clause-may g c = rw (← c.self.view_is) (place_may _ _ c.self.invariant c.args.at c.args.item c.in-Some.node.now (sym c.in-Some.ensures.value) (rw (← c.self.view_is) at c.requires) (c.is_full.ensures.room c.if-not-is_full.true))

pub returns-then-not-is_full-clause-first : goal.returns-then-not-is_full-clause-first
returns-then-not-is_full-clause-first g c = rw (← c.self.view_is) (place_next _ _ c.self.invariant c.args.at c.args.item c.in-Some.node.now (sym c.in-Some.ensures.value) (rw (← c.self.view_is) at c.requires) (c.is_full.ensures.room c.if-not-is_full.true))

pub returns-clause-first : goal.returns-clause-first
returns-clause-first g c =
    rw (← c.self.view_is)
    (wait_next _ _ c.self.invariant c.args.at c.args.item c.in-Some.node.now (sym c.in-Some.ensures.value) (rw (← c.self.view_is) at c.requires) c.room_at.result c.nearest.result (c.is_full.ensures.full c.if-not-is_full.false) (rw (← c.self.view_is) at c.room_at.ensures.first) (rw (← c.self.view_is) at c.room_at.ensures.looks) (rw (← c.self.view_is) at c.nearest.ensures.first) (rw (← c.self.view_is) at c.nearest.ensures.last))
