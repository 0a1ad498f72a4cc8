use Rattle.std.proofs.Common.{Ok, Err, refl, inl, ◌∙◌}
use Rattle.scripts.specs.Causes.{CommitsIn}
use Rattle.scripts.specs.States.{begun}
use Rattle.scripts.proofs.CauseLemmas.{commits_in, lets_go}
use Rattle.line_streams.proofs.LeavingLemmas.{left_by}
use Rattle.scripts.proofs.CommitLemmas.{begins, commit_ended, commit_refused}
use Rattle.scripts.proofs.calls.commit.Goals as goal

pub returns-in-Ok-clause-commits : goal.returns-in-Ok-clause-commits
returns-in-Ok-clause-commits g c still =
    commit_ended c.args.seat c.args.changes.now c.args.world.now.plain c.begin.new.self.plain c.in_ok-number.number still c.in_ok-number.ensures.happens c.conclude.new.world.plain c.in-Ok.outcome c.in-Ok.ensures.concludes

pub returns-in-Err-clause-commits : goal.returns-in-Err-clause-commits
returns-in-Err-clause-commits g c still =
    commit_refused c.args.seat c.args.changes.now c.args.world.now.plain c.begin.new.self.plain c.in_ok-number.number still c.in_ok-number.ensures.happens c.conclude.new.world.plain c.abort.new.self.plain c.in-Err.fault _ c.in-Err.ensures.concludes c.abort.ensures.happens

pub returns-in-Ok-clause-index : goal.returns-in-Ok-clause-index
returns-in-Ok-clause-index g c still =
    let started = begins c.args.seat c.args.world.now.plain c.begin.new.self.plain c.in_ok-number.number still c.in_ok-number.ensures.happens in
    commits_in c.args.seat c.in_ok-number.number c.args.changes.now c.args.world.now c.begin.new.self c.conclude.new.world (Ok c.in-Ok.outcome) started.number_is c.begin.ensures.index c.in_ok-number.ensures.walks
    (c.in-Ok.ensures.index (begun c.args.world.now.plain) started.subject started.seated started.stands)

pub returns-in-Err-clause-index : goal.returns-in-Err-clause-index
returns-in-Err-clause-index g c still =
    let started = begins c.args.seat c.args.world.now.plain c.begin.new.self.plain c.in_ok-number.number still c.in_ok-number.ensures.happens in
    let ends = c.in-Err.ensures.index (begun c.args.world.now.plain) started.subject started.seated started.stands in
    commits_in c.args.seat c.in_ok-number.number c.args.changes.now c.args.world.now c.begin.new.self c.abort.new.self (Err c.in-Err.fault) started.number_is c.begin.ensures.index c.in_ok-number.ensures.walks (
      ends.0,
      ends.1,
      ends.2,
      ends.3,
      ends.4,
      ends.5,
      c.abort.ensures.index ∙ ends.6,
      lets_go c.in_ok-number.number ends.2.walks c.conclude.new.world.walks c.abort.new.self.walks c.abort.result ends.7 c.abort.ensures.walks,
    )

pub returns-in_err-number-clause-index : goal.returns-in_err-number-clause-index
returns-in_err-number-clause-index g c still =
    let fault = c.in_err-number.field-0.0 in
    left_by c.from_residual.result fault (λ r. CommitsIn c.args.seat c.args.changes.now c.args.world.now c.begin.new.self r) c.from_residual.ensures.1
    (inl (fault, refl, c.in_err-number.ensures.happens, (c.begin.ensures.index, c.in_err-number.ensures.walks)))
