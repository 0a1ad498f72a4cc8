use Rattle.std.proofs.Common.{◌∙◌, ◌++◌, [], ◌∷◌, length, ap, sym, arith}
use Rattle.std.proofs.lemmas.List.{append_assoc, drop_more}
use Rattle.feature_store.specs.Blocks.{no_entry}
use Rattle.feature_store.proofs.WalkLemmas.{place_below, row_next}
use Rattle.feature_store.proofs.blocks.copy_block.Goals as goal

pub bounds-features-entry : goal.bounds-features-entry
bounds-features-entry g c = place_below c.args.entries.now _ c.loop-entry.entry-index c.requires.in_range c.loop-entry-test.true

pub offset_bounds-features-entry : goal.offset_bounds-features-entry
offset_bounds-features-entry g c = omega (arith, place_below c.args.entries.now _ c.loop-entry.entry-index c.requires.in_range c.loop-entry-test.true)

pub loop-entry-preserved : goal.loop-entry-preserved
loop-entry-preserved g c =
    let i = c.loop-entry.entry-index in
    let below = place_below c.args.entries.now _ i c.requires.in_range c.loop-entry-test.true in
    record {
      len = omega (arith, c.push_reserved.ensures.len, c.loop-entry.invariant.len, ap length (drop_more c.args.entries.now i no_entry c.loop-entry-test.true));
      capacity = c.push_reserved.ensures.capacity ∙ c.loop-entry.invariant.capacity;
      told = rw (c.push_reserved.ensures.items, c.feature.ensures) (append_assoc c.loop-entry.rows.items (c.index-features-entry.result ∷ []) _
          ∙ ap (λ rows. c.loop-entry.rows.items ++ rows) (sym (row_next c.args.entries.now c.args.features.now i c.index-features-entry.result c.loop-entry-test.true below c.index-features-entry.is)) ∙ c.loop-entry.invariant.told);
    }
