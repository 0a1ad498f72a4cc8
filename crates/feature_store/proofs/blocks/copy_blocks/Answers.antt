use Rattle.std.proofs.Common.{◌∙◌, ◌+◌, ◌++◌, drop, length, ap, sym}
use Rattle.std.proofs.lemmas.List.{append_assoc}
use Rattle.feature_store.specs.Blocks.{entries_of, places_in}
use Rattle.feature_store.specs.Tables.{rows_at}
use Rattle.feature_store.proofs.WalkLemmas.{all_here, all_later, rows_next}
use Rattle.feature_store.proofs.blocks.copy_blocks.Goals as goal

pub copy_block-requires-clause-in_range : goal.copy_block-requires-clause-in_range
copy_block-requires-clause-in_range g c =
    rw c.as_slice-entries.ensures.value (all_here c.args.blocks.now c.loop-block.block-index c.block-item.result c.loop-block-test.true c.block-item.is _ c.loop-block.invariant.in_range)

pub loop-block-preserved : goal.loop-block-preserved
loop-block-preserved g c =
    let i = c.loop-block.block-index in
    let blocks = c.args.blocks.now in
    let block = c.block-item.result in
    let within = c.loop-block-test.true in
    let features = c.args.features.now in
    let rows = c.loop-block.rows.items in
    record {
      in_range = all_later blocks i block within c.block-item.is (length features) c.loop-block.invariant.in_range;
      told = ap (λ front. front ++ rows_at (places_in (entries_of (drop (i + 1) blocks))) features) (c.copy_block.ensures.rows ∙ ap (λ items. items ++ rows_at (places_in c.as_slice-entries.result.now) features) c.make_room.ensures.items ∙ ap (λ entries. rows ++ rows_at (places_in entries) features) c.as_slice-entries.ensures.value)
          ∙ append_assoc rows (rows_at (places_in block.items) features) (rows_at (places_in (entries_of (drop (i + 1) blocks))) features)
          ∙ ap (λ rest. rows ++ rest) (sym (rows_next blocks i block within c.block-item.is features)) ∙ c.loop-block.invariant.told;
    }
