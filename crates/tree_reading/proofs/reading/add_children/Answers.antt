use Rattle.std.proofs.Common.{◌≡◌, slice_get, slice_index_or, List, Some, sym, subst, ◌∙◌}
use Rattle.std.proofs.lemmas.Bool.{false≢true}
use Rattle.node_arena.specs.declared.handle.Handle.{Handle}
use Rattle.tree_theory.specs.Nodes.{entries_of, children_of}
use Rattle.tree_nodes.proofs.ListEnds.{take_one, get_some, both_at}
use Rattle.tree_reading.proofs.ReadingLemmas.{leads_more, leads_past}
use Rattle.tree_reading.proofs.reading.add_children.Goals as goal
use Rattle.tree_reading.proofs.reading.add_children.Goals.{then-has_bit+in_ok-try_push, else-has_bit}

pub loop-i-preserved : goal.loop-i-preserved
loop-i-preserved g c =
    let child : Handle = slice_index_or c.children-child-items.result.now c.loop-i.i (record { slot = 0; generation = 0 }) in
    let there : slice_get (children_of c.args.node.now.body) c.loop-i.i ≡ Some child = subst (λ (cs : List Handle). slice_get cs c.loop-i.i ≡ Some child) c.children-child-items.ensures.value (get_some c.children-child-items.result.now c.loop-i.i (record { slot = 0; generation = 0 }) c.loop-i-test.true) in
    let both = both_at (entries_of c.args.node.now.body) c.loop-i.i child there in
    let key = subst (λ ks. slice_get ks c.loop-i.i ≡ Some both.first) (sym c.keys.ensures.value) both.first_is in
    let told = c.matching_mask-mask.ensures.each c.loop-i.i both.first key in
    let more = take_one (entries_of c.args.node.now.body) c.loop-i.i (both.first, child) both.is in
    elim c.if-has_bit.branch [
      | then-has_bit+in_ok-try_push w ↦ rw (more, w.left-is, w.in_ok-try_push.ensures.items) (leads_more _ _ _ _ _ (both.first, child) c.loop-i.invariant)
      | else-has_bit w ↦ rw (more, w.left-is) (leads_past _ _ _ _ _ (both.first, child) c.loop-i.invariant (λ h. false≢true (sym w.if-has_bit.false ∙ c.has_bit.ensures.1 (told.1 h))))
    ]
