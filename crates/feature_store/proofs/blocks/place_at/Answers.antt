use Rattle.std.proofs.Common.{◌∙◌, sym, arith}
use Rattle.feature_store.specs.Blocks.{no_entry}
use Rattle.feature_store.proofs.WalkLemmas.{place_here, place_later}
use Rattle.feature_store.proofs.blocks.place_at.Goals as goal

pub returns-then-left-len : goal.returns-then-left-len
returns-then-left-len c =
    rw c.as_slice.ensures.value
    (sym (place_here c.args.blocks.now c.loop-block.block-index c.block-item.result c.loop-block-test.true c.block-item.is c.loop-block.left no_entry (omega (arith, c.if-left-len.true, c.len.ensures.value))) ∙ c.loop-block.invariant)

pub loop-block-preserved : goal.loop-block-preserved
loop-block-preserved c =
    rw c.len-left.ensures.value
    (sym (place_later c.args.blocks.now c.loop-block.block-index c.block-item.result c.loop-block-test.true c.block-item.is c.loop-block.left (omega (arith, c.if-left-len.false, c.len.ensures.value))) ∙ c.loop-block.invariant)
