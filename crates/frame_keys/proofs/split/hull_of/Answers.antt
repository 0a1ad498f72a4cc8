use Rattle.std.proofs.Common.{arith, sym, ◌∙◌, refl}
use Rattle.std.proofs.lemmas.Bool.{false≢true}
use Rattle.std.proofs.lemmas.Option.{slice_get_read}
use Rattle.frame_keys.proofs.MaskBits.{lowest}
use Rattle.frame_keys.proofs.MaskHulls.{from_one, with_key, without_key, of_all}
use Rattle.frame_keys.proofs.split.hull_of.Goals as goal
use Rattle.frame_keys.proofs.split.hull_of.Goals.{then-has_bit, else-has_bit}

pub loop-i-init : goal.loop-i-init
loop-i-init c =
    let low = lowest c.args.mask c.requires.some c.ranges.mask.fits in
    from_one c.args.keys.now c.args.mask _ _ (slice_get_read c.args.keys.now _ _ _ refl (omega (arith, low.0, c.requires.size)) c.index-keys-mask.is) low.1

pub loop-i-preserved : goal.loop-i-preserved
loop-i-preserved c =
    let here = slice_get_read c.args.keys.now _ c.loop-i.i _ refl c.loop-i-test.true c.index-keys-i.is in
    elim c.if-has_bit.branch [
      | then-has_bit w ↦ rw (w.frame-is, w.hull-frame.ensures.value) (with_key c.loop-i.frame c.args.keys.now c.args.mask c.loop-i.i c.index-keys-i.result here (c.has_bit.ensures.0 w.if-has_bit.true) c.loop-i.invariant)
      | else-has_bit w ↦ rw w.frame-is (without_key c.loop-i.frame c.args.keys.now c.args.mask c.loop-i.i c.index-keys-i.result here (λ s. false≢true (sym w.if-has_bit.false ∙ c.has_bit.ensures.1 s)) c.loop-i.invariant)
    ]

pub returns : goal.returns
returns c = of_all _ _ _ _ c.loop-i-test.false c.loop-i.invariant
