use Rattle.std.proofs.Common.{[], refl}
use Rattle.scripts.specs.Indexed.{LineRuns, indexed}
use Rattle.line_streams.specs.Streams.{NeverEnds, Ran}
use Rattle.line_streams.proofs.LeavingLemmas.{left_by}
use Rattle.scripts.proofs.IndexLemmas.{all_drop_plainly}
use Rattle.scripts.proofs.LineLemmas.{run_idle}
use Rattle.scripts.proofs.ScriptLemmas.{ran_plainly, script_text_of, untouched_so}
use Rattle.line_streams.proofs.StreamLemmas.{ran_along}
use Rattle.scripts.proofs.scripts.run_script.Goals as goal

pub returns-clause-script_text : goal.returns-clause-script_text
returns-clause-script_text g c =
    let runs = ran_along (λ s. indexed s.0 s.1.sessions.items s.1.next_slot) (NeverEnds LineRuns) c.run_lines-end.result _ _ _ _ _ _ c.run_lines-end.ensures.ran in
    let ran = rw c.in_ok-table.ensures.sessions at (ran_plainly c.run_lines-end.result _ _ _ _ _ _ runs) in
    let shuts = rw c.deref.ensures.value at c.drop_all.ensures.shuts in
    let drops = all_drop_plainly _ _ _ shuts in
    script_text_of c.run_lines-end.result _ _ _ _ _ _ _ _ ran drops

pub returns-clause-ran : goal.returns-clause-ran
returns-clause-ran g c =
    let runs = ran_along (λ s. indexed s.0 s.1.sessions.items s.1.next_slot) (NeverEnds LineRuns) c.run_lines-end.result _ _ _ _ _ _ c.run_lines-end.ensures.ran in
    let ran = rw c.in_ok-table.ensures.sessions at (ran_plainly c.run_lines-end.result _ _ _ _ _ _ runs) in
    let shuts = rw c.deref.ensures.value at c.drop_all.ensures.shuts in
    let drops = all_drop_plainly _ _ _ shuts in
    (c.run_lines-end.new.desk.sessions.items, c.run_lines-end.new.world.plain, ran, drops)

pub returns-in_err-table-clause-runs : goal.returns-in_err-table-clause-runs
returns-in_err-table-clause-runs g c =
    let input = g.R.Read.remaining c.args.reader.now in
    let output = g.W.Write.contents c.args.writer.now in
    let first = indexed c.args.world.now [] 0 in (
      [],
      0,
      c.args.world.now,
      left_by c.from_residual.result _ (λ r. Ran (NeverEnds LineRuns) r first first input input output output) c.from_residual.ensures.1 (refl, refl, refl),
      refl,
    )

pub returns-clause-runs : goal.returns-clause-runs
returns-clause-runs g c =
    let runs = rw (c.in_ok-table.ensures.sessions, c.in_ok-table.ensures.turn) at (ran_along (λ s. indexed s.0 s.1.sessions.items s.1.next_slot) (NeverEnds LineRuns) c.run_lines-end.result _ _ _ _ _ _ c.run_lines-end.ensures.ran) in
    let shuts = rw c.deref.ensures.value at c.drop_all.ensures.shuts in
    (c.run_lines-end.new.desk.sessions.items, c.run_lines-end.new.desk.next_slot, c.run_lines-end.new.world, runs, shuts)

pub returns-clause-idle : goal.returns-clause-idle
returns-clause-idle g c idle =
    let runs = ran_along (λ s. indexed s.0 s.1.sessions.items s.1.next_slot) (NeverEnds LineRuns) c.run_lines-end.result _ _ _ _ _ _ c.run_lines-end.ensures.ran in
    let ran = rw c.in_ok-table.ensures.sessions at (ran_plainly c.run_lines-end.result _ _ _ _ _ _ runs) in
    let shuts = rw c.deref.ensures.value at c.drop_all.ensures.shuts in
    let drops = all_drop_plainly _ _ _ shuts in
    run_idle c.run_lines-end.result _ _ _ _ _ _ _ _ ran drops idle

pub returns-clause-untouched : goal.returns-clause-untouched
returns-clause-untouched g c =
    let none = rw c.deref.ensures.value at c.drop_all.ensures.none in
    untouched_so (λ table. table.sessions.items) _ c.run_lines-end.result _ _ _ _ _ _ _ _ _ c.run_lines-end.ensures.ran c.in_ok-table.ensures.sessions none c.run_lines-end.ensures.untouched
