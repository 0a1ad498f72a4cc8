use Rattle.std.proofs.Common.{length, ap, arith}
use Rattle.std.proofs.lemmas.List.{length-drop, length-take-le}
use Rattle.feature_store.specs.Blocks.{block_at}
use Rattle.feature_store.proofs.BlockLemmas.{block_lower, block_upper, filled_halved, index_lower, index_upper, items_halved, length_halved}
use Rattle.feature_store.proofs.RoomLemmas.{fill_halved, spare_halved}
use Rattle.feature_store.proofs.blocks.split_for.Goals as goal

pub returns-then-position-le-HALF-clause-within : goal.returns-then-position-le-HALF-clause-within
returns-then-position-le-HALF-clause-within g c =
    let blocks = c.args.blocks.now.items in
    let at = c.args.position.block in
    let within = c.requires.within.block_in in
    let half = length-take-le 256 (block_at blocks at) (omega (arith, c.requires.full)) in
    rw c.split.ensures.items (record {
      block_in = omega (arith, within, length_halved blocks at within);
      index_in = omega (arith, ap length (block_lower blocks at within), half, c.if-position-le-HALF.true);
    })

pub returns-then-position-le-HALF-clause-space : goal.returns-then-position-le-HALF-clause-space
returns-then-position-le-HALF-clause-space g c =
    let blocks = c.args.blocks.now.items in
    let at = c.args.position.block in
    rw c.split.ensures.items (omega (arith, ap length (block_lower blocks at c.requires.within.block_in), length-take-le 256 (block_at blocks at) (omega (arith, c.requires.full))))

pub returns-then-position-le-HALF-clause-items : goal.returns-then-position-le-HALF-clause-items
returns-then-position-le-HALF-clause-items g c = rw c.split.ensures.items (items_halved _ _ c.requires.within.block_in)

pub returns-then-position-le-HALF-clause-index : goal.returns-then-position-le-HALF-clause-index
returns-then-position-le-HALF-clause-index g c = rw c.split.ensures.items (index_lower _ _ c.requires.within.block_in c.args.position.index)

pub returns-then-position-le-HALF-clause-filled : goal.returns-then-position-le-HALF-clause-filled
returns-then-position-le-HALF-clause-filled g c = rw c.split.ensures.items (filled_halved _ _ c.requires.filled c.requires.within.block_in c.requires.full)

pub returns-then-position-le-HALF-clause-spare : goal.returns-then-position-le-HALF-clause-spare
returns-then-position-le-HALF-clause-spare g c = rw (c.split.ensures.items, c.split.ensures.capacity) (spare_halved _ _ _ c.requires.within.block_in c.requires.full)

pub returns-then-position-le-HALF-clause-fill : goal.returns-then-position-le-HALF-clause-fill
returns-then-position-le-HALF-clause-fill g c = rw (c.split.ensures.items, c.split.ensures.capacity) (fill_halved _ _ _ c.requires.within.block_in c.requires.full)

pub returns-clause-within : goal.returns-clause-within
returns-clause-within g c =
    let blocks = c.args.blocks.now.items in
    let at = c.args.position.block in
    let within = c.requires.within.block_in in
    rw c.split.ensures.items (record {
      block_in = omega (arith, within, length_halved blocks at within);
      index_in = omega (arith, ap length (block_upper blocks at within), length-drop 256 (block_at blocks at), c.requires.within.index_in, c.if-position-le-HALF.false);
    })

pub returns-clause-space : goal.returns-clause-space
returns-clause-space g c =
    let blocks = c.args.blocks.now.items in
    let at = c.args.position.block in
    rw c.split.ensures.items (omega (arith, ap length (block_upper blocks at c.requires.within.block_in), length-drop 256 (block_at blocks at), c.requires.full))

pub returns-clause-items : goal.returns-clause-items
returns-clause-items g c = rw c.split.ensures.items (items_halved _ _ c.requires.within.block_in)

pub returns-clause-index : goal.returns-clause-index
returns-clause-index g c = rw c.split.ensures.items (index_upper _ _ c.requires.within.block_in c.args.position.index c.requires.full (omega (arith, c.if-position-le-HALF.false)))

pub returns-clause-filled : goal.returns-clause-filled
returns-clause-filled g c = rw c.split.ensures.items (filled_halved _ _ c.requires.filled c.requires.within.block_in c.requires.full)

pub returns-clause-spare : goal.returns-clause-spare
returns-clause-spare g c = rw (c.split.ensures.items, c.split.ensures.capacity) (spare_halved _ _ _ c.requires.within.block_in c.requires.full)

pub returns-clause-fill : goal.returns-clause-fill
returns-clause-fill g c = rw (c.split.ensures.items, c.split.ensures.capacity) (fill_halved _ _ _ c.requires.within.block_in c.requires.full)
