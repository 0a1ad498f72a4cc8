use Rattle.std.proofs.Common.{Ok, Err, refl, ap}
use Rattle.session_lines.specs.Replies.{line, rows}
use Rattle.scripts.specs.States.{solo}
use Rattle.scripts.proofs.CauseLemmas.{search_so, search_there}
use Rattle.scripts.proofs.solos.SoloService.search.Goals as goal

pub returns-in-Ok : goal.returns-in-Ok
returns-in-Ok g c =
    let s = c.args.self.now in
    let end = Ok c.in-Ok.answer in
    let said = rows c.in-Ok.answer in (
      refl,
      search_so c.in-Some.seat c.args.window end said refl (solo s.world.now.plain s.seat) (solo c.search.new.world.plain s.seat) c.in-Some.is refl c.in-Ok.ensures.searches,
      search_there c.in-Some.seat c.args.window end said refl s.seat s.world.now c.search.new.world c.in-Some.is c.in-Ok.ensures.index,
    )

pub returns-in-Err : goal.returns-in-Err
returns-in-Err g c =
    let s = c.args.self.now in
    let end = Err c.in-Err.fault in
    let said = line c.fault_reply.result in
    let shown = ap line c.fault_reply.ensures in (
      refl,
      search_so c.in-Some.seat c.args.window end said shown (solo s.world.now.plain s.seat) (solo c.search.new.world.plain s.seat) c.in-Some.is refl c.in-Err.ensures.searches,
      search_there c.in-Some.seat c.args.window end said shown s.seat s.world.now c.search.new.world c.in-Some.is c.in-Err.ensures.index,
    )
