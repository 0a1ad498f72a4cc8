use Rattle.std.proofs.Common.{Some, ap, sym, ◌∙◌}
use Rattle.feature_store.proofs.RowLemmas.{absent_at_gap}
use Rattle.feature_store.proofs.TableLemmas.{rising, gap_row, row_found}
use Rattle.feature_store.proofs.tables.find.Goals as goal

pub place_of-requires : goal.place_of-requires
place_of-requires g c = rising _ _ _ c.requires

pub returns-in-Some : goal.returns-in-Some
returns-in-Some g c = ap Some c.feature.ensures ∙ row_found _ _ _ c.requires _ _ _ c.in-Some.ensures.found.at c.in-Some.ensures.found.place_is _ c.index.ensures

pub returns-in-None : goal.returns-in-None
returns-in-None g c = sym (absent_at_gap _ _ _ (gap_row _ _ _ c.requires _ _ c.in-None.ensures.missing.gap))
