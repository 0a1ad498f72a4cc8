use Rattle.std.proofs.Common.{Ok, Err, refl, ap}
use Rattle.session_lines.specs.Replies.{line}
use Rattle.scripts.specs.States.{solo}
use Rattle.scripts.proofs.CauseLemmas.{commit_so, commit_there}
use Rattle.scripts.proofs.solos.SoloService.commit.Goals as goal

pub returns-in-Ok : goal.returns-in-Ok
returns-in-Ok g c =
    let s = c.args.self.now in
    let changes = c.args.changes.now in
    let end = Ok c.in-Ok.outcome in
    let said = line c.outcome_reply.result in
    let shown = ap line c.outcome_reply.ensures in (
      refl,
      commit_so c.in-Some.seat changes end said shown (solo s.world.now.plain s.seat) (solo c.commit.new.world.plain s.seat) c.in-Some.is refl c.in-Ok.ensures.commits,
      commit_there c.in-Some.seat changes end said shown s.seat s.world.now c.commit.new.world c.in-Some.is c.in-Ok.ensures.index,
    )

pub returns-in-Err : goal.returns-in-Err
returns-in-Err g c =
    let s = c.args.self.now in
    let changes = c.args.changes.now in
    let end = Err c.in-Err.fault in
    let said = line c.fault_reply.result in
    let shown = ap line c.fault_reply.ensures in (
      refl,
      commit_so c.in-Some.seat changes end said shown (solo s.world.now.plain s.seat) (solo c.commit.new.world.plain s.seat) c.in-Some.is refl c.in-Err.ensures.commits,
      commit_there c.in-Some.seat changes end said shown s.seat s.world.now c.commit.new.world c.in-Some.is c.in-Err.ensures.index,
    )
