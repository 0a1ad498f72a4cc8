use Rattle.std.specs.Prelude.{◌↔◌, IsTrue, IsBitSet}
use Rattle.std.proofs.Common.{arith, sym, ◌∙◌, subst, refl}
use Rattle.std.proofs.lemmas.Bool.{false≢true}
use Rattle.std.proofs.lemmas.Option.{slice_get_read, slice_get_within}
use Rattle.frame_keys.proofs.MaskBits.{tells_set, tells_not}
use Rattle.frame_keys.proofs.Middles.{reads_middle, test_reads}
use Rattle.frame_keys.specs.Splits.{middle, is_behind}
use Rattle.frame_keys.proofs.split.behind.Goals as goal
use Rattle.frame_keys.proofs.split.behind.Goals.{then-is_behind, else-is_behind}

pub loop-i-preserved : goal.loop-i-preserved
loop-i-preserved c =
    let here = slice_get_read c.args.keys.now _ c.loop-i.i _ refl c.loop-i-test.true c.index-keys-i.is in
    elim c.if-is_behind.branch [
      | then-is_behind w ↦ rw w.mask-is (
          tells_set _ c.args.keys.now c.loop-i.mask w.with_bit-mask.result c.loop-i.i c.index-keys-i.result here
          (test_reads _ _ _ _ c.args.axis c.index-keys-i.result _ _ c.middle.type_inv c.middle.ensures c.is_behind.ensures w.if-is_behind.true) w.with_bit-mask.ensures.set w.with_bit-mask.ensures.others c.loop-i.invariant
          )
      | else-is_behind w ↦ rw w.mask-is (
          tells_not _ c.args.keys.now c.loop-i.mask c.loop-i.i c.index-keys-i.result here
          (λ h. false≢true (sym (test_reads _ _ _ _ c.args.axis c.index-keys-i.result _ _ c.middle.type_inv c.middle.ensures c.is_behind.ensures w.if-is_behind.false) ∙ h)) c.loop-i.invariant
          )
    ]

pub returns : goal.returns
returns c =
    let here = slice_get_read c.args.keys.now _ c.args.place _ refl (omega (arith, c.requires.size, c.requires.place)) c.index-keys-place.is in
    record {
      at = c.index-keys-place.result;
      here = here;
      each = λ i key found.
          let reads = reads_middle _ c.args.axis c.index-keys-place.result c.middle-at.type_inv c.middle-at.ensures in
          subst (λ m. IsBitSet c.loop-i.mask i ↔ IsTrue (is_behind (middle c.args.axis key) i m c.args.place)) reads
          (c.loop-i.invariant.each i key (let h = slice_get_within c.args.keys.now i key found in omega arith) found);
      no_other = λ i set. let h = c.loop-i.invariant.no_other i set in omega (arith, h, c.requires.size, c.loop-i.auto.i-end);
    }
