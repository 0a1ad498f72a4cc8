use Rattle.std.proofs.Common.{◌≡◌, List, slice_get, slice_index_or, Some, sym, subst, ◌∙◌}
use Rattle.std.proofs.lemmas.Bool.{false≢true}
use Rattle.node_arena.specs.declared.handle.Handle.{Handle}
use Rattle.tree_theory.specs.Nodes.{entries_of, children_of}
use Rattle.tree_nodes.proofs.ListEnds.{take_one, get_some, both_at}
use Rattle.tree_nodes.proofs.VisitLemmas.{children_none, children_more, children_past}
use Rattle.tree_nodes.proofs.seeing.push_children.Goals as goal
use Rattle.tree_nodes.proofs.seeing.push_children.Goals.{then-has_bit, else-has_bit}

pub loop-i-init : goal.loop-i-init
loop-i-init g c = children_none _ _ _ _

pub loop-i-preserved : goal.loop-i-preserved
loop-i-preserved g c =
    let child : Handle = slice_index_or c.children-child-items.result.now c.loop-i.i (record { slot = 0; generation = 0 }) in
    let there : slice_get (children_of c.args.node.now.body) c.loop-i.i ≡ Some child = subst (λ (cs : List Handle). slice_get cs c.loop-i.i ≡ Some child) c.children-child-items.ensures.value (get_some c.children-child-items.result.now c.loop-i.i (record { slot = 0; generation = 0 }) c.loop-i-test.true) in
    let both = both_at (entries_of c.args.node.now.body) c.loop-i.i child there in
    let key = subst (λ ks. slice_get ks c.loop-i.i ≡ Some both.first) (sym c.keys.ensures.value) both.first_is in
    let told = c.matching_mask-mask.ensures.each c.loop-i.i both.first key in
    let more = take_one (entries_of c.args.node.now.body) c.loop-i.i (both.first, child) both.is in
    elim c.if-has_bit.branch [
      | then-has_bit w ↦ rw (more, w.progress-is) (children_more _ _ _ _ _ _ _ (both.first, child) c.loop-i.invariant (told.0 (c.has_bit.ensures.0 w.if-has_bit.true)) w.push.ensures)
      | else-has_bit w ↦ rw (more, w.progress-is) (children_past _ _ _ _ _ _ (both.first, child) c.loop-i.invariant (λ h. false≢true (sym w.if-has_bit.false ∙ c.has_bit.ensures.1 (told.1 h))))
    ]
