use Rattle.std.proofs.Common.{◌≡◌}
use Rattle.sqlite_trees.specs.View.{IsClean, IsQuiet, OnlyWrites}
use Rattle.sqlite_trees.specs.declared.store.Shape.TheVariants as kind
use Rattle.volumes.specs.Edits.{KeepsLast}
use Rattle.volumes.proofs.beginning.put_features.Given as goal

abbrev pub invariant-loop-feature : goal.invariant-loop-feature
invariant-loop-feature g l =
    let view = g.S.Store.view in
    record {
      shaped : IsClean (view l.store) → (view l.store).shape l.table ≡ kind.Table;
      frame : IsClean (view l.store) → OnlyWrites (view l.fn.store) (view l.store);
      kept : IsClean (view l.store) → KeepsLast (view l.fn.store) (view l.store);
      quiet : IsQuiet g.S.Store.view g.S.Store.faults g.S.Store.recovers g.S.Store.is_shielded l.fn.store l.store;
    }
