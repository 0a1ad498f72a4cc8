use Rattle.std.proofs.Common.{◌+◌, Err, rules, ap, ◌∙◌}
use Rattle.line_streams.proofs.StreamLemmas.{concluded, ends_at_end, ends_at_line, flush_failed, gave_up, read_failed, some_taken, stands_first, stands_kept, stands_on}
use Rattle.line_streams.proofs.streams.go_on_within.Goals as goal

pub loop-init : goal.loop-init
loop-init g c = record { stands = λ start whole holds. stands_first g.D.LineDesk.tells start _ _ _ _ whole holds; made = c.none-turns.ensures }

pub returns-in_err-flush : goal.returns-in_err-flush
returns-in_err-flush g c start whole holds =
    flush_failed g.D.LineDesk.tells _ c.from_residual.result _ _ _ _ _ _ _ _ _ _ c.from_residual.ensures.1 (c.loop.invariant.stands start whole holds) c.flush.ensures

pub returns-in_err-count : goal.returns-in_err-count
returns-in_err-count g c start whole holds =
    read_failed g.D.LineDesk.tells _ c.from_residual-in_err-count.result _ _ _ _ _ _ _ _ _ _ _ c.from_residual-in_err-count.ensures.1 (c.loop.invariant.stands start whole holds) c.flush.ensures c.in_err-count.ensures.bytes

pub returns-then-count-eq0 : goal.returns-then-count-eq0
returns-then-count-eq0 g c start whole holds =
    let stands = stands_kept g.D.LineDesk.tells _ _ _ _ _ _ _ _ (g.W.Write.contents c.flush.new.writer) (c.loop.invariant.stands start whole holds) c.flush.ensures in
    let taken = rw c.if-count-eq0.true at c.in_ok-count.ensures.bytes.0 in
    let ended = ends_at_end g.D.LineDesk.tells c.end-end.result _ _ _ _ _ _ _ _ _ _ _ stands taken (c.in_ok-count.ensures.bytes.1 c.if-count-eq0.true (search rules))
    (c.end-end.ensures stands.passed.begun stands.passed.open_line stands.passed.holds) in
    concluded g.D.LineDesk.tells _ c.end-end.result c.conclude.result _ _ _ _ _ _ _ _ ended c.conclude.ensures

pub returns-in-Err : goal.returns-in-Err
returns-in-Err g c start whole holds =
    let stands = stands_kept g.D.LineDesk.tells _ _ _ _ _ _ _ _ (g.W.Write.contents c.flush.new.writer) (c.loop.invariant.stands start whole holds) c.flush.ensures in
    let ended = ends_at_line g.D.LineDesk.tells c.in-Err.stop _ _ _ _ _ _ _ _ _ _ _ _ stands c.in_ok-count.ensures.bytes.0 (c.in-Err.ensures stands.passed.begun stands.passed.open_line stands.passed.holds) in
    concluded g.D.LineDesk.tells _ (Err c.in-Err.stop) c.conclude-in-Err.result _ _ _ _ _ _ _ _ ended c.conclude-in-Err.ensures

pub loop-preserved : goal.loop-preserved
loop-preserved g c = record {
  stands = λ start whole holds.
      let stands = stands_kept g.D.LineDesk.tells _ _ _ _ _ _ _ _ (g.W.Write.contents c.flush.new.writer) (c.loop.invariant.stands start whole holds) c.flush.ensures in
      stands_on g.D.LineDesk.tells _ _ _ _ _ _ _ _ _ _ _ _ _ stands c.in_ok-count.ensures.bytes.0 (some_taken c.in_ok-count.count _ c.if-count-eq0.false c.in_ok-count.ensures.bound.1)
      (c.in_default.ensures stands.passed.begun stands.passed.open_line stands.passed.holds);
  made = c.read_some.ensures.counts ∙ ap (λ n. n + 1) c.loop.invariant.made;
}

pub returns-in_err-flush-2 : goal.returns-in_err-flush-2
returns-in_err-flush-2 g c start whole holds =
    flush_failed g.D.LineDesk.tells _ c.from_residual-in_err-flush-2.result _ _ _ _ _ _ _ _ _ _ c.from_residual-in_err-flush-2.ensures.1 (c.loop.invariant.stands start whole holds) c.flush-2.ensures

pub returns : goal.returns
returns g c start whole holds = gave_up g.D.LineDesk.tells _ c.loop.turns _ _ _ _ _ _ _ _ _ (c.loop.invariant.stands start whole holds) c.flush-2.ensures c.loop.invariant.made c.loop.auto.counter-end c.loop-test.false
