use Rattle.std.proofs.Common.{arith, sym, ◌∙◌}
use Rattle.search_tree.proofs.DueLemmas.{on_none, there_below, lacks, full_lacks_none, nowhere_lacks_none, no_right_lacks_none, gone_right_lacks_none}
use Rattle.search_tree.proofs.NeedLemmas.{may_install}
use Rattle.search_tree.proofs.tree.Tree.lacking.Goals as goal

pub returns-clause-may : goal.returns-clause-may
returns-clause-may g c =
    let room = c.if-not-has_room.false in
    let child = rw c.children.ensures.value at c.in_ok-place.ensures.some in
    rw (← c.self.view_is) (may_install _ _ c.self.invariant c.args.at c.in_ok-parent.parent c.in_ok-beside.beside c.in_ok-place.place c.in_ok-left.left.now c.in_ok-node.node.now c.in_ok-right.right.now (sym c.in_ok-left.ensures.value) (sym c.place.ensures ∙ c.in_ok-parent.ensures.some) (sym c.in_ok-node.ensures.value) (c.has_room.ensures.inner room) (c.has_room.ensures.room room) child (sym c.in_ok-beside.ensures) (sym c.in_ok-right.ensures.value) c.keys.result.now c.index-keys-place.result c.key_for.result c.key_for-2.result c.keys.ensures.value c.index-keys-place.is c.key_for.ensures c.key_for-2.ensures)

pub returns-clause-due : goal.returns-clause-due
returns-clause-due g c = rw (← c.self.view_is) (lacks _ _ c.self.invariant c.args.at c.in_ok-parent.parent c.in_ok-left.left.now c.in_ok-node.node.now (sym c.in_ok-left.ensures.value) (sym c.place.ensures ∙ c.in_ok-parent.ensures.some) (sym c.in_ok-node.ensures.value) (c.has_room.ensures.room c.if-not-has_room.false))

pub returns-then-not-has_room-clause-none : goal.returns-then-not-has_room-clause-none
returns-then-not-has_room-clause-none g c = rw (← c.self.view_is) (full_lacks_none _ _ c.self.invariant c.args.at c.in_ok-parent.parent c.in_ok-left.left.now c.in_ok-node.node.now (sym c.in_ok-left.ensures.value) (sym c.place.ensures ∙ c.in_ok-parent.ensures.some) (sym c.in_ok-node.ensures.value) (c.has_room.ensures.full c.if-not-has_room.true))

pub returns-in_err-place-clause-none : goal.returns-in_err-place-clause-none
returns-in_err-place-clause-none g c =
    let nowhere = rw c.children.ensures.value at c.in_err-place.ensures.none in
    rw (← c.self.view_is) (on_none _ (nowhere_lacks_none _ _ c.self.invariant c.args.at c.in_ok-parent.parent c.in_ok-left.left.now c.in_ok-node.node.now (sym c.in_ok-left.ensures.value) (sym c.place.ensures ∙ c.in_ok-parent.ensures.some) (sym c.in_ok-node.ensures.value) nowhere))

pub returns-in_err-beside-clause-none : goal.returns-in_err-beside-clause-none
returns-in_err-beside-clause-none g c = rw (← c.self.view_is) (on_none _ (no_right_lacks_none _ _ c.self.invariant c.args.at c.in_ok-parent.parent c.in_ok-left.left.now c.in_ok-node.node.now (sym c.in_ok-left.ensures.value) (sym c.place.ensures ∙ c.in_ok-parent.ensures.some) (sym c.in_err-beside.ensures)))

pub returns-in_err-right-clause-none : goal.returns-in_err-right-clause-none
returns-in_err-right-clause-none g c = rw (← c.self.view_is) (on_none _ (gone_right_lacks_none _ _ c.self.invariant c.args.at c.in_ok-parent.parent c.in_ok-left.left.now c.in_ok-node.node.now (sym c.in_ok-left.ensures.value) (sym c.place.ensures ∙ c.in_ok-parent.ensures.some) c.in_ok-beside.beside (sym c.in_ok-beside.ensures) (sym c.in_err-right.ensures.value)))

pub offset_bounds-keys-place : goal.offset_bounds-keys-place
offset_bounds-keys-place g c =
    let below = there_below _ c.keys.result.now c.children.result.now c.in_ok-place.place c.args.at c.keys.ensures.value c.children.ensures.value c.in_ok-place.ensures.some in
    omega (arith, below)

pub bounds-keys-place : goal.bounds-keys-place
bounds-keys-place g c = there_below _ c.keys.result.now c.children.result.now c.in_ok-place.place c.args.at c.keys.ensures.value c.children.ensures.value c.in_ok-place.ensures.some
