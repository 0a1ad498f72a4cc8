use Rattle.std.proofs.Common.{Ok, Err, refl, ap}
use Rattle.std.specs.Arc.{arc_value}
use Rattle.session_lines.specs.Replies.{line, rolled}
use Rattle.scripts.specs.States.{solo}
use Rattle.scripts.proofs.RollLemmas.{rolled_so}
use Rattle.scripts.proofs.solos.SoloService.roll.Goals as goal

pub returns-in-Ok : goal.returns-in-Ok
returns-in-Ok g c =
    let s = c.args.self.now in
    (refl, rolled_so c.in-Some.seat (solo s.world.now.plain s.seat) (solo c.roll.new.world.plain s.seat) (Ok (arc_value c.in-Ok.piece)) (rolled (arc_value c.in-Ok.piece)) c.in-Some.is refl c.in-Ok.ensures.happens refl, c.in-Ok.ensures.beside)

pub returns-in-Err : goal.returns-in-Err
returns-in-Err g c =
    let s = c.args.self.now in
    (refl, rolled_so c.in-Some.seat (solo s.world.now.plain s.seat) (solo c.roll.new.world.plain s.seat) (Err c.in-Err.fault) (line c.fault_reply.result) c.in-Some.is refl c.in-Err.ensures.happens (ap line c.fault_reply.ensures), c.in-Err.ensures.beside)
