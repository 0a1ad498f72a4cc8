use Rattle.std.proofs.Common.{◌≡◌, ◌<◌, ◌++◌, length, drop}
use Rattle.std.specs.List.{All}
use Rattle.feature_store.specs.Blocks.{entries_of, places_in}
use Rattle.feature_store.specs.Tables.{rows_at}
use Rattle.feature_store.proofs.blocks.copy_blocks.Given as goal

abbrev pub invariant-loop-block : goal.invariant-loop-block
invariant-loop-block g l = record {
  in_range : All (λ place. place < length l.features) (places_in (entries_of (drop l.block-index l.blocks)));
  told : l.rows.items ++ rows_at (places_in (entries_of (drop l.block-index l.blocks))) l.features ≡ l.fn.rows.items ++ rows_at (places_in (entries_of l.blocks)) l.features;
}
