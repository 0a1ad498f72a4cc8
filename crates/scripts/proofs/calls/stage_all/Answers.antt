use Rattle.std.proofs.Common.{take, Err, IfErr}
use Rattle.plain_world.specs.Events.{Stage, Failed}
use Rattle.scripts.specs.Causes.{IsOwn}
use Rattle.scripts.proofs.CauseLemmas.{stage_own}
use Rattle.line_streams.proofs.LeavingLemmas.{left_by}
use Rattle.scripts.proofs.SearchLemmas.{from_same}
use Rattle.scripts.proofs.CommitLemmas.{may_stage_at, stage_one}
use Rattle.scripts.proofs.calls.stage_all.Goals as goal

pub returns-in_err-stage-clause-stages : goal.returns-in_err-stage-clause-stages
returns-in_err-stage-clause-stages g c w subject seated start =
    let i = c.loop-change.change-index in
    let changes = c.args.changes.now in
    let change = c.change-item.result in
    let may = may_stage_at changes i change c.requires.distinct c.requires.few c.loop-change-test.true c.change-item.is in
    let told = from_same (Stage c.args.seat c.args.number change) _ _ _ _ (c.loop-change.invariant.0 w subject seated start) c.in_err-stage.ensures.happens in
    let staged = stage_one c.args.number c.args.seat w subject seated (take i changes) 0 change c.stage.new.self.plain (Err c.in_err-stage.field-0.0) may told in
    (let wrong = staged.0 in absurd cc)

pub returns-in_err-stage-clause-own : goal.returns-in_err-stage-clause-own
returns-in_err-stage-clause-own g c =
    let fault = c.in_err-stage.field-0.0 in
    left_by c.from_residual.result fault (λ r. IfErr r IsOwn) c.from_residual.ensures.1
    (stage_own c.args.seat c.args.number c.change-item.result c.loop-change.world.plain c.stage.new.self.plain (Failed fault) c.in_err-stage.ensures.happens)
