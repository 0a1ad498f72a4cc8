use Rattle.std.proofs.Common.{◌≡◌, ◌+◌, map, drop}
use Rattle.std.specs.Arc.{arc_value}
use Rattle.sqlite_trees.specs.View.{IsClean, IsQuiet}
use Rattle.volumes.specs.Edits.{KeepsLast}
use Rattle.volumes.specs.Volumes.{AreTables}
use Rattle.volumes.proofs.RecordLemmas.{GoesOn}
use Rattle.volumes.proofs.records.put_records.Given as goal

abbrev pub invariant-loop-item : goal.invariant-loop-item
invariant-loop-item g l =
    let view = g.S.Store.view in
    record {
      counted : l.number ≡ l.first + l.item-index;
      shaped : IsClean (view l.store) → AreTables (view l.store) l.tables;
      kept : IsClean (view l.store) → KeepsLast (view l.fn.store) (view l.store);
      quiet : IsQuiet g.S.Store.view g.S.Store.faults g.S.Store.recovers g.S.Store.is_shielded l.fn.store l.store;
      told : IsClean (view l.store) → GoesOn (view l.fn.store) (view l.store) l.tables l.first l.number (map arc_value (drop l.item-index l.records)) (map arc_value l.records);
    }
