use Rattle.std.proofs.Common.{arith, refl, sym, ◌∙◌}
use Rattle.std.proofs.lemmas.Bool.{false≢true}
use Rattle.std.proofs.lemmas.Option.{slice_get_read}
use Rattle.tree_nodes.proofs.ListEnds.{take_one}
use Rattle.tree_nodes.proofs.Sharing.{shared_none, shared_right, shared_left, right_fits, left_fits}
use Rattle.tree_nodes.proofs.halves.share_pairs.Goals as goal
use Rattle.tree_nodes.proofs.halves.share_pairs.Goals.{then-has_bit, else-has_bit}

pub loop-place-init : goal.loop-place-init
loop-place-init g c = shared_none c.args.mask c.args.left.now c.args.right.now c.requires.left c.requires.right

pub push-requires : goal.push-requires
push-requires g c =
    let fits = right_fits c.args.mask _ _ _ _ c.loop-place.invariant in
    let long = c.requires.pairs in
    let within = c.loop-place-test.true in
    omega (arith, fits, long, within)

pub push-requires-else-has_bit : goal.push-requires-else-has_bit
push-requires-else-has_bit g c =
    let fits = left_fits c.args.mask _ _ _ _ c.loop-place.invariant in
    let long = c.requires.pairs in
    let within = c.loop-place-test.true in
    omega (arith, fits, long, within)

pub loop-place-preserved : goal.loop-place-preserved
loop-place-preserved g c =
    let here = slice_get_read c.args.pairs.now _ c.loop-place.place _ refl c.loop-place-test.true c.index-pairs-place.is in
    let more = take_one c.args.pairs.now c.loop-place.place c.index-pairs-place.result here in
    elim c.if-has_bit.branch [
      | then-has_bit w ↦ rw (more, w.left-is, w.right-is, w.push.ensures) (shared_right c.args.mask _ _ _ _ c.index-pairs-place.result (c.has_bit.ensures.0 w.if-has_bit.true) c.loop-place.invariant)
      | else-has_bit w ↦ rw (more, w.left-is, w.right-is, w.push-else-has_bit.ensures) (shared_left c.args.mask _ _ _ _ c.index-pairs-place.result (λ h. false≢true (sym w.if-has_bit.false ∙ c.has_bit.ensures.1 h)) c.loop-place.invariant)
    ]
