use Rattle.feature_store.proofs.RowLemmas.{absent_at_gap, not_both}
use Rattle.feature_store.proofs.TableLemmas.{rising, gap_row}
use Rattle.feature_store.proofs.EntryLemmas.{rows_rewritten, tied_rewritten}
use Rattle.feature_store.proofs.tables.reshape.Goals as goal

pub place_of-requires : goal.place_of-requires
place_of-requires g c = rising _ _ _ c.requires.sound

pub unreachable-requires : goal.unreachable-requires
unreachable-requires g c = not_both _ (absent_at_gap _ _ _ (gap_row _ _ _ c.requires.sound _ _ c.in-None.ensures.missing.gap)) c.requires.present

pub returns-clause-rows : goal.returns-clause-rows
returns-clause-rows g c = rw c.reshape.ensures (rows_rewritten _ _ c.requires.sound _ _ _ _ c.in-Some.ensures.found _ c.index_mut.ensures.value)

pub returns-clause-sound : goal.returns-clause-sound
returns-clause-sound g c = rw c.reshape.ensures (tied_rewritten _ _ c.requires.sound _ _ _ _ c.in-Some.ensures.found _ c.index_mut.ensures.value)
