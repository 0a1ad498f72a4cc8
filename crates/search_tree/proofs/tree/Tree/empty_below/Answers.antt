use Rattle.std.proofs.Common.{sym, ◌∙◌}
use Rattle.search_tree.proofs.DueLemmas.{on_none, unneeded, alone_needed, nowhere_needed}
use Rattle.search_tree.proofs.NeedLemmas.{may_retire, no_pairs}
use Rattle.search_tree.proofs.tree.Tree.empty_below.Goals as goal

pub returns-clause-may : goal.returns-clause-may
returns-clause-may g c =
    let empty = c.if-not-is_empty_leaf.false in
    let others = c.if-not-has_others.false in
    let child = rw c.children.ensures.value at c.in_ok-place.ensures.some in
    rw (← c.self.view_is) (may_retire _ _ c.self.invariant c.args.at c.in_ok-parent.parent c.in_ok-place.place c.in_ok-leaf.leaf.now c.in_ok-node.node.now (sym c.in_ok-leaf.ensures.value) (c.is_empty_leaf.ensures.leaf empty) (c.is_empty_leaf.ensures.empty empty) (sym c.place.ensures ∙ c.in_ok-parent.ensures.some) (sym c.in_ok-node.ensures.value) (c.has_others.ensures.inner others) (c.has_others.ensures.more others) child)

pub returns-clause-due : goal.returns-clause-due
returns-clause-due g c =
    let empty = c.if-not-is_empty_leaf.false in
    rw (← c.self.view_is) (unneeded _ _ c.self.invariant c.args.at c.in_ok-parent.parent c.in_ok-leaf.leaf.now c.in_ok-node.node.now (sym c.in_ok-leaf.ensures.value) (sym c.place.ensures ∙ c.in_ok-parent.ensures.some) (sym c.in_ok-node.ensures.value) (no_pairs _ _ c.self.invariant _ (c.is_empty_leaf.ensures.leaf empty) (c.is_empty_leaf.ensures.empty empty)) (c.has_others.ensures.more c.if-not-has_others.false))

pub returns-then-not-has_others-clause-none : goal.returns-then-not-has_others-clause-none
returns-then-not-has_others-clause-none g c = rw (← c.self.view_is) (alone_needed _ _ c.self.invariant c.args.at c.in_ok-parent.parent c.in_ok-leaf.leaf.now c.in_ok-node.node.now (sym c.in_ok-leaf.ensures.value) (sym c.place.ensures ∙ c.in_ok-parent.ensures.some) (sym c.in_ok-node.ensures.value) (c.has_others.ensures.other c.if-not-has_others.true))

pub returns-in_err-place-clause-none : goal.returns-in_err-place-clause-none
returns-in_err-place-clause-none g c =
    let nowhere = rw c.children.ensures.value at c.in_err-place.ensures.none in
    rw (← c.self.view_is) (on_none _ (nowhere_needed _ _ c.self.invariant c.args.at c.in_ok-parent.parent c.in_ok-leaf.leaf.now c.in_ok-node.node.now (sym c.in_ok-leaf.ensures.value) (sym c.place.ensures ∙ c.in_ok-parent.ensures.some) (sym c.in_ok-node.ensures.value) nowhere))
