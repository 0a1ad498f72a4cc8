use Rattle.std.proofs.Common.{◌≡◌, ◌+◌, ◌++◌, length, drop, vec_len, vec_capacity}
use Rattle.feature_store.specs.Blocks.{places_in}
use Rattle.feature_store.specs.Tables.{rows_at}
use Rattle.feature_store.proofs.blocks.copy_block.Given as goal

abbrev pub invariant-loop-entry : goal.invariant-loop-entry
invariant-loop-entry g l = record {
  len : vec_len l.rows + length (drop l.entry-index l.entries) ≡ vec_len l.fn.rows + length l.entries;
  capacity : vec_capacity l.rows ≡ vec_capacity l.fn.rows;
  told : l.rows.items ++ rows_at (places_in (drop l.entry-index l.entries)) l.features ≡ l.fn.rows.items ++ rows_at (places_in l.entries) l.features;
}
