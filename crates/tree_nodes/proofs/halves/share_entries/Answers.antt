use Rattle.std.proofs.Common.{arith, refl, sym, ◌∙◌}
use Rattle.std.proofs.lemmas.Bool.{false≢true}
use Rattle.std.proofs.lemmas.Option.{slice_get_read}
use Rattle.tree_nodes.proofs.Sharing.{shared_none, right_fits, left_fits, zipped_all, zipped_right, zipped_left}
use Rattle.tree_nodes.proofs.halves.share_entries.Goals as goal
use Rattle.tree_nodes.proofs.halves.share_entries.Goals.{then-has_bit, else-has_bit}

pub loop-place-init : goal.loop-place-init
loop-place-init g c = shared_none c.args.mask c.args.left.now c.args.right.now c.requires.left c.requires.right

pub push-requires : goal.push-requires
push-requires g c =
    let fits = right_fits c.args.mask _ _ _ _ c.loop-place.invariant in
    let long = c.requires.children in
    let within = c.loop-place-test.true in
    omega (arith, fits, long, within)

pub push-requires-else-has_bit : goal.push-requires-else-has_bit
push-requires-else-has_bit g c =
    let fits = left_fits c.args.mask _ _ _ _ c.loop-place.invariant in
    let long = c.requires.children in
    let within = c.loop-place-test.true in
    omega (arith, fits, long, within)

pub loop-place-preserved : goal.loop-place-preserved
loop-place-preserved g c =
    elim c.if-has_bit.branch [
      | then-has_bit w ↦ rw (w.left-is, w.right-is, w.push.ensures) (zipped_right c.args.mask c.args.keys.now c.args.children.now c.loop-place.place _ _ w.index-keys-place.result _ c.loop-place-test.true (slice_get_read c.args.keys.now _ c.loop-place.place _ refl (omega (arith, c.requires.keys, c.requires.children, c.loop-place-test.true)) w.index-keys-place.is) (c.has_bit.ensures.0 w.if-has_bit.true) c.loop-place.invariant)
      | else-has_bit w ↦ rw (w.left-is, w.right-is, w.push-else-has_bit.ensures) (zipped_left c.args.mask c.args.keys.now c.args.children.now c.loop-place.place _ _ w.index-keys-place-else-has_bit.result _ c.loop-place-test.true (slice_get_read c.args.keys.now _ c.loop-place.place _ refl (omega (arith, c.requires.keys, c.requires.children, c.loop-place-test.true)) w.index-keys-place-else-has_bit.is) (λ h. false≢true (sym w.if-has_bit.false ∙ c.has_bit.ensures.1 h)) c.loop-place.invariant)
    ]

pub returns : goal.returns
returns g c = zipped_all c.args.mask c.args.keys.now c.args.children.now c.loop-place.place _ _ c.requires.keys c.requires.children c.loop-place.auto.place-end c.loop-place-test.false c.ranges.mask.fits c.loop-place.invariant
