use Rattle.std.proofs.Common.{◌≡◌, drop}
use Rattle.features.specs.Changes.{CanApply, additions, after}
use Rattle.kept_shapes.specs.Rings.{rings_in}
use Rattle.feature_store.specs.Tables.{HasRoom, IsSound, rows_of}
use Rattle.feature_store.proofs.stores.make_all.Given as goal

abbrev pub invariant-loop-change : goal.invariant-loop-change
invariant-loop-change g l = record {
  sound : IsSound l.table;
  can_apply : CanApply (drop l.change-index l.changes) (rows_of l.table);
  room : HasRoom (additions (drop l.change-index l.changes)) l.table;
  rings : l.rings ≡ rings_in (drop l.change-index l.changes);
  told : after l.version l.office (drop l.change-index l.changes) (rows_of l.table) ≡ after l.version l.office l.changes (rows_of l.fn.table);
}
