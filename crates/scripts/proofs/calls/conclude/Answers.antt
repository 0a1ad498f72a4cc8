use Rattle.std.proofs.Common.{Ok, Err, refl, inl, inr}
use Rattle.plain_world.specs.Events.{Commit, Ended, reply_of}
use Rattle.scripts.specs.Causes.{ConcludesIn}
use Rattle.scripts.specs.UnderWay.{ConcludesAll}
use Rattle.scripts.proofs.CauseLemmas.{commit_own, ends_own, lets_go}
use Rattle.line_streams.proofs.LeavingLemmas.{left_by}
use Rattle.scripts.proofs.SearchLemmas.{from_same}
use Rattle.scripts.proofs.calls.conclude.Goals as goal

pub returns-in_err-place_all-clause-concludes : goal.returns-in_err-place_all-clause-concludes
returns-in_err-place_all-clause-concludes g c w subject seated start =
    let staged = c.in_ok-stage_all.ensures.stages w subject seated start in
    let placed = c.in_err-place_all.ensures.places w subject c.args.changes.now seated staged.1 in
    left_by c.from_residual-in_err-place_all.result _ (λ r. ConcludesAll c.args.seat c.args.number c.args.changes.now w c.place_all.new.world.plain (reply_of Ended r)) c.from_residual-in_err-place_all.ensures.1
    (inl (c.in_err-place_all.field-0.0, placed.0, placed.1, refl))

pub returns-clause-concludes : goal.returns-clause-concludes
returns-clause-concludes g c w subject seated start =
    let staged = c.in_ok-stage_all.ensures.stages w subject seated start in
    let placed = c.in_ok-place_all.ensures.places w subject c.args.changes.now seated staged.1 in
    inr (placed.0, placed.2, placed.3, from_same (Commit c.args.seat c.args.number) _ _ _ _ placed.1 c.commit.ensures.happens)

pub returns-in_err-stage_all-clause-index : goal.returns-in_err-stage_all-clause-index
returns-in_err-stage_all-clause-index g c w subject seated start =
    let staged = c.in_err-stage_all.ensures.stages w subject seated start in
    (let wrong = staged.0 in absurd cc)

pub returns-in_err-place_all-clause-index : goal.returns-in_err-place_all-clause-index
returns-in_err-place_all-clause-index g c w subject seated start =
    let fault = c.in_err-place_all.field-0.0 in
    let staged = c.in_ok-stage_all.ensures.stages w subject seated start in
    let beside = c.in_ok-stage_all.ensures.beside in
    left_by c.from_residual-in_err-place_all.result fault
    (λ r. ConcludesIn c.args.seat c.args.number c.args.changes.now w c.args.world.now.index c.args.world.now.walks c.place_all.new.world r) c.from_residual-in_err-place_all.ensures.1
    (c.stage_all.new.world, record { stands = staged.1; index_is = beside.0; walks_are = beside.1 }, c.place_all.new.world, Err fault, c.in_err-place_all.ensures.index, refl, refl, (0, refl))

pub returns-clause-index : goal.returns-clause-index
returns-clause-index g c w subject seated start =
    let staged = c.in_ok-stage_all.ensures.stages w subject seated start in
    let beside = c.in_ok-stage_all.ensures.beside in (
      c.stage_all.new.world,
      record { stands = staged.1; index_is = beside.0; walks_are = beside.1 },
      c.place_all.new.world,
      Ok tt,
      c.in_ok-place_all.ensures.index,
      ends_own Ended c.commit.result (commit_own c.args.seat c.args.number _ _ _ c.commit.ensures.happens),
      c.commit.ensures.index,
      lets_go c.args.number c.place_all.new.world.walks c.place_all.new.world.walks c.commit.new.self.walks c.commit.result (0, refl) c.commit.ensures.walks,
    )
