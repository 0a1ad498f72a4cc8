use Rattle.std.proofs.Common.{◌≡◌, drop}
use Rattle.sqlite_trees.specs.View.{IsClean, IsQuiet}
use Rattle.sqlite_trees.specs.declared.store.Shape.TheVariants as kind
use Rattle.volumes.specs.Edits.{KeepsLast}
use Rattle.volumes.proofs.ChangeLemmas.{IsUnderWay}
use Rattle.volumes.proofs.changes.put_changes.Given as goal

abbrev pub invariant-loop-change : goal.invariant-loop-change
invariant-loop-change g l =
    let view = g.S.Store.view in
    record {
      shaped : IsClean (view l.store) → (view l.store).shape l.table ≡ kind.Table;
      kept : IsClean (view l.store) → KeepsLast (view l.fn.store) (view l.store);
      quiet : IsQuiet g.S.Store.view g.S.Store.faults g.S.Store.recovers g.S.Store.is_shielded l.fn.store l.store;
      told : IsClean (view l.store) → IsUnderWay (view l.fn.store) (view l.store) l.table l.version l.office (drop l.change-index l.changes) l.changes;
    }
