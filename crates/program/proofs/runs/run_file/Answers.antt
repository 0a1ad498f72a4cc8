use Rattle.std.proofs.Common.{◌∙◌, Err, IfErr, ap}
use Rattle.plain_world.specs.States as states
use Rattle.line_streams.proofs.LeavingLemmas.{left_by}
use Rattle.program.proofs.RunLemmas.{came, of_run, served}
use Rattle.configuration.specs.Configs.{config_data}
use Rattle.program.specs.RunFaults.{IsOfRun}
use Rattle.program.proofs.runs.run_file.Goals as goal

pub returns-in_err-end-clause-err : goal.returns-in_err-end-clause-err
returns-in_err-end-clause-err g c =
    let opened = config_data c.args.config in
    let script = g.R.Read.remaining c.args.file.now in
    let before = g.W.Write.contents c.args.output.now in
    let after = g.W.Write.contents c.flush.new.writer in
    let fault = c.in_err-end.field-0.0 in
    let ran = c.in_err-end.ensures.ran in
    let far = came opened c.args.features.number (Err fault) c.in-Ok.world.plain ran.1 ran.0 script (g.R.Read.remaining c.run_script-end.new.reader) before (g.W.Write.contents c.run_script-end.new.writer) after (c.in-Ok.ensures.ok ∙ ap (states.opened _ _ _) c.limits.ensures.value) ran.2 c.flush.ensures in
    left_by c.from_residual-in_err-end.result _ (λ r. IfErr r (IsOfRun opened c.args.features.number script before after)) c.from_residual-in_err-end.ensures.1 (of_run opened c.args.features.number fault script before after far)

pub returns-in_err-flushed-clause-err : goal.returns-in_err-flushed-clause-err
returns-in_err-flushed-clause-err g c =
    let opened = config_data c.args.config in
    let script = g.R.Read.remaining c.args.file.now in
    let before = g.W.Write.contents c.args.output.now in
    let after = g.W.Write.contents c.flush.new.writer in
    let end = c.run_script-end.result in
    let ran = c.run_script-end.ensures.ran in
    let far = came opened c.args.features.number end c.in-Ok.world.plain ran.1 ran.0 script (g.R.Read.remaining c.run_script-end.new.reader) before (g.W.Write.contents c.run_script-end.new.writer) after (c.in-Ok.ensures.ok ∙ ap (states.opened _ _ _) c.limits.ensures.value) ran.2 c.flush.ensures in
    left_by c.from_residual.result _ (λ r. IfErr r (IsOfRun opened c.args.features.number script before after)) c.from_residual.ensures.1 (end, far)

pub returns-clause-served : goal.returns-clause-served
returns-clause-served g c =
    served (config_data c.args.config) c.args.features.number (g.R.Read.remaining c.args.file.now) (g.W.Write.contents c.args.output.now) (g.W.Write.contents c.run_script-end.new.writer) (g.W.Write.contents c.flush.new.writer) c.in-Ok.world.plain c.run_script-end.new.world.plain (c.in-Ok.ensures.ok ∙ ap (states.opened _ _ _) c.limits.ensures.value) c.in_ok-end.ensures.script_text c.flush.ensures
