use Rattle.std.proofs.Common.{◌≡◌, ◌∙◌, [], length, refl, sym, ap, arith}
use Rattle.std.specs.Io.KnownBytes.{Appends}
use Rattle.line_streams.specs.declared.streams.Next.TheVariants.{Line, End}
use Rattle.scripts.specs.Heard.{heard_text}
use Rattle.scripts.specs.Keeping.{next_record}
use Rattle.scripts.proofs.HeardLemmas.{appends_nothing, line_runs}
use Rattle.scripts.proofs.keeping.KeptTableLineDesk.take_line.Goals as goal

pub returns-in-Err : goal.returns-in-Err
returns-in-Err g c =
    let w = g.W.Write.contents c.args.writer.now in
    let none : Appends w w [] = appends_nothing w in
    let tended = c.tend.ensures in (
      [],
      End,
      (none, refl),
      (
        heard_text c.answer-heard.result,
        line_runs c.args.line.now c.args.world.now c.answer-heard.new.world c.tend.new.world c.args.self.now.table.sessions.items c.answer-heard.new.self.sessions.items c.tend.new.self.sessions.items c.args.self.now.table.next_slot
            c.answer-heard.new.self.next_slot c.tend.new.self.next_slot (heard_text c.answer-heard.result) c.answer-heard.ensures.answers tended.sessions c.answer-heard.ensures.turn tended.world tended.walks tended.index tended.turn,
        refl,
      ),
    )

pub returns : goal.returns
returns g c =
    let said = heard_text c.answer-heard.result in
    let tended = c.tend-2.ensures in
    let first = c.trail.ensures.first in
    let many : length c.trail.result.now.records ≡ length c.answer-heard.new.world.plain.trail = ap length c.trail.ensures.records in
    let here : g.K.Keeper.next c.keep.new.self ≡ next_record c.answer-heard.new.world.plain = omega (arith, c.in_default.ensures, first, many) in (
      said,
      Line,
      c.behind.ensures (g.W.Write.contents c.args.writer.now) (g.W.Write.contents c.write_heard-end.new.writer) said c.write_heard-end.ensures,
      (
        line_runs c.args.line.now c.args.world.now c.answer-heard.new.world c.tend-2.new.world c.args.self.now.table.sessions.items c.answer-heard.new.self.sessions.items c.tend-2.new.self.sessions.items c.args.self.now.table.next_slot
            c.answer-heard.new.self.next_slot c.tend-2.new.self.next_slot said c.answer-heard.ensures.answers tended.sessions c.answer-heard.ensures.turn tended.world tended.walks tended.index tended.turn,
        here ∙ ap next_record (sym tended.world),
      ),
    )
