use Rattle.std.proofs.Common.{◌∙◌, arith}
use Rattle.feature_store.proofs.RowLemmas.{absent_at_gap, not_both}
use Rattle.feature_store.proofs.TableLemmas.{rising, gap_row}
use Rattle.feature_store.proofs.EntryLemmas.{rising_fewer, rows_less_last, tied_less_last, rows_less_moved, tied_less_moved}
use Rattle.feature_store.proofs.tables.take_out.Goals as goal

pub remove-requires : goal.remove-requires
remove-requires g c = rising _ _ _ c.requires.sound

pub unreachable-requires : goal.unreachable-requires
unreachable-requires g c = not_both _ (absent_at_gap _ _ _ (gap_row _ _ _ c.requires.sound _ _ c.in-None.ensures.missing.gap)) c.requires.present

pub renumber-requires : goal.renumber-requires
renumber-requires g c = rising_fewer _ _ c.requires.sound _ _ _ c.in-Some.ensures.removed

pub returns-then-place-last-clause-rows : goal.returns-then-place-last-clause-rows
returns-then-place-last-clause-rows g c =
    rows_less_moved _ _ c.requires.sound _ _ _ c.in-Some.ensures.removed c.swap_remove.new.self.items _ _ c.args.table.now.features.ok.0
    (c.len-last.ensures ∙ c.swap_remove.new.self.ok.0) (omega (arith, c.swap_remove.ensures.len, c.swap_remove.new.self.ok.0, c.args.table.now.features.ok.0)) c.swap_remove.ensures.by_index
    c.if-place-last.true _ c.index.ensures _ c.renumber.ensures.ids (rw c.id-moved.ensures at c.renumber.ensures.places)

pub returns-then-place-last-clause-sound : goal.returns-then-place-last-clause-sound
returns-then-place-last-clause-sound g c =
    tied_less_moved _ _ c.requires.sound _ _ _ c.in-Some.ensures.removed c.swap_remove.new.self.items _ _ c.args.table.now.features.ok.0
    (c.len-last.ensures ∙ c.swap_remove.new.self.ok.0) (omega (arith, c.swap_remove.ensures.len, c.swap_remove.new.self.ok.0, c.args.table.now.features.ok.0)) c.swap_remove.ensures.by_index
    c.if-place-last.true _ c.index.ensures _ c.renumber.ensures.ids (rw c.id-moved.ensures at c.renumber.ensures.places)

pub returns-else-place-last-clause-rows : goal.returns-else-place-last-clause-rows
returns-else-place-last-clause-rows g c =
    rows_less_last _ _ c.requires.sound _ _ _ c.in-Some.ensures.removed c.swap_remove.new.self.items _ _ c.args.table.now.features.ok.0
    (c.len-last.ensures ∙ c.swap_remove.new.self.ok.0) (omega (arith, c.swap_remove.ensures.len, c.swap_remove.new.self.ok.0, c.args.table.now.features.ok.0)) c.swap_remove.ensures.by_index
    (omega (arith, c.if-place-last.false))

pub returns-else-place-last-clause-sound : goal.returns-else-place-last-clause-sound
returns-else-place-last-clause-sound g c =
    tied_less_last _ _ c.requires.sound _ _ _ c.in-Some.ensures.removed c.swap_remove.new.self.items _ _ c.args.table.now.features.ok.0
    (c.len-last.ensures ∙ c.swap_remove.new.self.ok.0) (omega (arith, c.swap_remove.ensures.len, c.swap_remove.new.self.ok.0, c.args.table.now.features.ok.0)) c.swap_remove.ensures.by_index
    (omega (arith, c.if-place-last.false))
