use Rattle.std.proofs.Common.{◌++◌, IsSome}
use Rattle.sqlite_trees.specs.View.{IsClean, IsQuiet}
use Rattle.volumes.specs.Edits.{KeepsLast, AreHigh, AreLow, AreIds}
use Rattle.volumes.proofs.ReadingLemmas.{ReadSoFar}
use Rattle.volumes.proofs.reading.read_features.Given as goal

abbrev pub invariant-loop : goal.invariant-loop
invariant-loop g l =
    let view = g.S.Store.view in
    record {
      live : IsSome ((view l.store).cursors 0);
      kept : IsClean (view l.store) → KeepsLast (view l.fn.store) (view l.store);
      quiet : IsQuiet g.S.Store.view g.S.Store.faults g.S.Store.recovers g.S.Store.is_shielded l.fn.store l.store;
      high : AreHigh l.highs.items;
      low : AreLow l.lows.items;
      ids : AreIds (l.highs.items ++ l.lows.items);
      told : IsClean (view l.store) → ReadSoFar (view l.fn.store) (view l.store) l.table (l.highs.items ++ l.lows.items);
    }
