use Rattle.std.proofs.Common.{refl}
use Rattle.line_streams.specs.declared.streams.Next.TheVariants.{Line}
use Rattle.scripts.specs.Heard.{heard_text}
use Rattle.scripts.proofs.HeardLemmas.{line_runs}
use Rattle.scripts.proofs.scripts.TableLineDesk.take_line.Goals as goal

pub returns : goal.returns
returns g c =
    let said = heard_text c.answer-heard.result in
    let tended = c.tend.ensures in (
      said,
      Line,
      c.behind.ensures (g.W.Write.contents c.args.writer.now) (g.W.Write.contents c.write_heard-end.new.writer) said c.write_heard-end.ensures,
      (
        line_runs c.args.line.now c.args.world.now c.answer-heard.new.world c.tend.new.world c.args.self.now.sessions.items c.answer-heard.new.self.sessions.items c.tend.new.self.sessions.items c.args.self.now.next_slot
            c.answer-heard.new.self.next_slot c.tend.new.self.next_slot said c.answer-heard.ensures.answers tended.sessions c.answer-heard.ensures.turn tended.world tended.walks tended.index tended.turn,
        refl,
      ),
    )
