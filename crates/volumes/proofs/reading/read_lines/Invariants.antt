use Rattle.std.proofs.Common.{IsSome}
use Rattle.sqlite_trees.specs.View.{IsClean, IsQuiet}
use Rattle.volumes.specs.Edits.{KeepsLast}
use Rattle.volumes.proofs.ReadingLemmas.{LinesSoFar}
use Rattle.volumes.proofs.reading.read_lines.Given as goal

abbrev pub invariant-loop : goal.invariant-loop
invariant-loop g l =
    let view = g.S.Store.view in
    record {
      live : IsSome ((view l.store).cursors 0);
      kept : IsClean (view l.store) → KeepsLast (view l.fn.store) (view l.store);
      quiet : IsQuiet g.S.Store.view g.S.Store.faults g.S.Store.recovers g.S.Store.is_shielded l.fn.store l.store;
      told : IsClean (view l.store) → LinesSoFar (view l.fn.store) (view l.store) l.table l.first l.number;
    }
