use Rattle.std.proofs.Common.{refl, inl, inr, arith, ◌∙◌}
use Rattle.plain_world.specs.Events.{Rows, VisitNext, reply_of}
use Rattle.plain_world.specs.Admitting.{may_go_on}
use Rattle.scripts.specs.Causes.{SeeksIn}
use Rattle.scripts.specs.Stepping.{Seeks}
use Rattle.scripts.proofs.CauseLemmas.{seeks_further, seeks_no_longer_in, seeks_ready_in, seeks_refused_in}
use Rattle.line_streams.proofs.LeavingLemmas.{left_by}
use Rattle.scripts.proofs.SearchLemmas.{from_same, seeks_on}
use Rattle.scripts.proofs.calls.seek.Goals as goal

pub returns-in_err-visit-clause-seeks : goal.returns-in_err-visit-clause-seeks
returns-in_err-visit-clause-seeks g c =
    let fault = c.in_err-visit.field-0.0 in
    left_by c.from_residual.result fault (λ r. Seeks c.args.seat c.args.number c.args.world.now.plain c.visit.new.self.plain (reply_of Rows r)) c.from_residual.ensures.1
    (inl (fault, from_same (VisitNext c.args.seat c.args.number) _ _ _ _ c.loop.invariant.0 c.in_err-visit.ensures.happens, refl))

pub returns-in_err-visit-clause-index : goal.returns-in_err-visit-clause-index
returns-in_err-visit-clause-index g c =
    let fault = c.in_err-visit.field-0.0 in
    left_by c.from_residual.result fault (λ r. SeeksIn (may_go_on c.args.seat c.args.number c.args.world.now.plain) c.args.number c.args.world.now.index c.visit.new.self.index r) c.from_residual.ensures.1
    (seeks_refused_in c.args.seat c.args.number c.loop.counter c.args.world.now.plain c.loop.world.plain c.loop.invariant.0 c.args.world.now.index c.loop.world.index c.loop.invariant.2
    c.visit.new.self.index fault c.in_err-visit.ensures.index)

pub returns-in-Ready-clause-index : goal.returns-in-Ready-clause-index
returns-in-Ready-clause-index g c =
    let visited = rw c.in-Ready.is at c.in_ok-visit.ensures.index in
    seeks_ready_in c.args.seat c.args.number c.loop.counter c.args.world.now.plain c.loop.world.plain c.loop.invariant.0 c.args.world.now.index c.loop.world.index c.loop.invariant.2
    c.visit.new.self.index c.finish.new.self.index c.finish.result visited c.finish.ensures.index

pub returns-clause-index : goal.returns-clause-index
returns-clause-index g c =
    seeks_no_longer_in c.args.seat c.args.number c.loop.counter c.args.world.now.plain c.loop.world.plain c.loop.invariant.0 c.args.world.now.index c.loop.world.index c.loop.invariant.2 (omega arith)

pub loop-preserved : goal.loop-preserved
loop-preserved g c =
    let happens = rw c.in-More.is at c.in_ok-visit.ensures.happens in
    let told = rw c.in-More.is at c.in_ok-visit.ensures.index in
    let on = seeks_on c.args.seat c.args.number c.args.world.now.plain c.loop.world.plain c.loop.invariant.0 c.visit.new.self.plain happens in (
      on.0,
      inr on.1,
      seeks_further c.args.seat c.args.number c.loop.counter c.args.world.now.plain c.loop.world.plain c.loop.invariant.0 c.args.world.now.index c.loop.world.index c.loop.invariant.2 c.visit.new.self.index told,
      c.visit.ensures.walks ∙ c.loop.invariant.3,
    )
