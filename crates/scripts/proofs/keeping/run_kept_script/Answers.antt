use Rattle.std.proofs.Common.{[], refl}
use Rattle.line_streams.proofs.StreamLemmas.{ran_along}
use Rattle.scripts.specs.Indexed.{indexed}
use Rattle.scripts.specs.Keeping.{RunsKept, kept_script}
use Rattle.scripts.proofs.keeping.run_kept_script.Goals as goal

pub returns-in-Err : goal.returns-in-Err
returns-in-Err g c = ([], 0, c.args.world.now, (refl, refl, refl), refl)

pub returns : goal.returns
returns g c =
    let runs = rw (c.in-Ok.ensures.sessions, c.in-Ok.ensures.turn) at (ran_along (λ s. kept_script (indexed s.0 s.1.table.sessions.items s.1.table.next_slot) (g.K.Keeper.next s.1.keeper)) RunsKept c.run_lines-end.result _ _ _ _ _ _ c.run_lines-end.ensures.ran) in
    let shuts = rw c.deref.ensures.value at c.drop_all.ensures.shuts in
    (c.run_lines-end.new.desk.table.sessions.items, c.run_lines-end.new.desk.table.next_slot, c.run_lines-end.new.world, runs, shuts)
