use Rattle.std.proofs.Common.{◌∙◌}
use Rattle.scripts.specs.Stepping.{GoesOn, VisitsOn}
use Rattle.plain_world.specs.Admitting.{may_go_on}
use Rattle.line_streams.proofs.LeavingLemmas.{left_by}
use Rattle.scripts.proofs.StepLemmas.{finds_one_more, goes_refused, sees_one_more, sees_ready, sees_refused}
use Rattle.scripts.proofs.stepping.go_on.Goals as goal

pub returns-in-Ready-clause-index : goal.returns-in-Ready-clause-index
returns-in-Ready-clause-index g c =
    let told = rw c.in-Ready.is at c.in_ok-visit.ensures.index in
    sees_ready c.args.seat c.args.number c.loop.counter c.args.world.now.plain c.loop.world.plain c.loop.invariant.0 c.args.world.now.index c.loop.world.index c.visit.new.self.index c.loop.invariant.1 c.args.steps c.loop-test.true told

pub returns-in_err-visit-clause-happens : goal.returns-in_err-visit-clause-happens
returns-in_err-visit-clause-happens g c =
    let fault = c.in_err-visit.field-0.0 in
    left_by c.from_residual.result fault (GoesOn c.args.seat c.args.number c.args.steps c.args.world.now.plain c.visit.new.self.plain) c.from_residual.ensures.1
    (goes_refused c.args.seat c.args.number c.loop.counter c.args.world.now.plain c.loop.world.plain c.visit.new.self.plain c.loop.invariant.0 c.args.steps fault c.loop-test.true c.in_err-visit.ensures.happens)

pub returns-in_err-visit-clause-index : goal.returns-in_err-visit-clause-index
returns-in_err-visit-clause-index g c =
    let fault = c.in_err-visit.field-0.0 in
    left_by c.from_residual.result fault (VisitsOn (may_go_on c.args.seat c.args.number c.args.world.now.plain) c.args.number c.args.steps c.args.world.now.index c.visit.new.self.index) c.from_residual.ensures.1
    (sees_refused c.args.seat c.args.number c.loop.counter c.args.world.now.plain c.loop.world.plain c.loop.invariant.0 c.args.world.now.index c.loop.world.index c.visit.new.self.index c.loop.invariant.1 c.args.steps fault c.loop-test.true c.in_err-visit.ensures.index)

pub loop-preserved : goal.loop-preserved
loop-preserved g c =
    let happens = rw c.in-More.is at c.in_ok-visit.ensures.happens in
    let told = rw c.in-More.is at c.in_ok-visit.ensures.index in (
      finds_one_more c.args.seat c.args.number c.loop.counter c.args.world.now.plain c.loop.world.plain c.visit.new.self.plain c.loop.invariant.0 happens,
      sees_one_more c.args.seat c.args.number c.loop.counter c.args.world.now.plain c.loop.world.plain c.loop.invariant.0 c.args.world.now.index c.loop.world.index c.visit.new.self.index c.loop.invariant.1 told,
      c.visit.ensures.walks ∙ c.loop.invariant.2,
    )
