use Rattle.std.proofs.Common.{sym}
use Rattle.search_tree.proofs.CaseLemmas.{looks_from, makes_here, may_here, not_full}
use Rattle.search_tree.proofs.tree.Tree.room_at.Goals as goal

pub returns-then-not-is_full-clause-looks : goal.returns-then-not-is_full-clause-looks
returns-then-not-is_full-clause-looks g c = rw (← c.self.view_is) (λ node is full. absurd (not_full _ _ c.self.invariant c.args.at c.in-Some.node.now (sym c.in-Some.ensures.value) (c.is_full.ensures.room c.if-not-is_full.true) node is full))

pub returns-clause-may : goal.returns-clause-may
returns-clause-may g c = rw (c.room_in.ensures, c.place.ensures) (rw (← c.self.view_is) (may_here _ _ c.self.invariant c.args.at c.in-Some.node.now (sym c.in-Some.ensures.value) (c.is_full.ensures.full c.if-not-is_full.false)))

pub returns-clause-first : goal.returns-clause-first
returns-clause-first g c = rw (c.room_in.ensures, c.place.ensures) (rw (← c.self.view_is) (makes_here _ _ c.self.invariant c.args.at c.in-Some.node.now (sym c.in-Some.ensures.value) (c.is_full.ensures.full c.if-not-is_full.false)))

pub returns-clause-looks : goal.returns-clause-looks
returns-clause-looks g c = rw (c.room_in.ensures, c.place.ensures) (rw (← c.self.view_is) (λ node is full. looks_from _ _ c.self.invariant c.args.at c.in-Some.node.now (sym c.in-Some.ensures.value) (c.is_full.ensures.full c.if-not-is_full.false) node is))
