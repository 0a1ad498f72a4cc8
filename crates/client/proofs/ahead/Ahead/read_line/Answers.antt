use Rattle.std.proofs.Common.{ap, drop, sym, ◌∙◌}
use Rattle.line_streams.proofs.LeavingLemmas.{left_by}
use Rattle.client.specs.Lines.{FindsLine}
use Rattle.client.proofs.LineLemmas.{gains_then, grown, line_found, none_found, open_front, open_same, still_open}
use Rattle.client.proofs.ahead.Ahead.read_line.Goals as goal

pub returns-in-Some-clause-finds : goal.returns-in-Some-clause-finds
returns-in-Some-clause-finds g c =
    line_found c.loop-at.seen _ _ c.in-Some.at c.loop-at.invariant.within c.loop-at.invariant.open_line (c.split_at.ensures.back ∙ ap (drop c.loop-at.seen) c.held.ensures) c.in-Some.ensures

pub returns-in_err-read_more-clause-finds : goal.returns-in_err-read_more-clause-finds
returns-in_err-read_more-clause-finds g c =
    let was = none_found c.loop-at.seen _ _ c.loop-at.invariant.open_line (c.split_at.ensures.back ∙ ap (drop c.loop-at.seen) c.held.ensures) c.in_default.ensures in
    left_by c.from_residual.result _ (λ r. FindsLine r (drop c.read_more.new.self.done c.read_more.new.self.bytes.items) (g.R.Read.remaining c.read_more.new.reader)) c.from_residual.ensures.1
    (still_open _ _ c.in_err-read_more.ensures.0 was)

pub returns-then-branch-eq0-clause-finds : goal.returns-then-branch-eq0-clause-finds
returns-then-branch-eq0-clause-finds g c =
    let was = none_found c.loop-at.seen _ _ c.loop-at.invariant.open_line (c.split_at.ensures.back ∙ ap (drop c.loop-at.seen) c.held.ensures) c.in_default.ensures in
    let read = c.in_ok-read_more.ensures in
    (open_same _ read.0 _ read.1 (sym c.if-branch-eq0.true ∙ read.3) was, read.4 c.if-branch-eq0.true)

pub loop-at-preserved : goal.loop-at-preserved
loop-at-preserved g c =
    let was = none_found c.loop-at.seen _ _ c.loop-at.invariant.open_line (c.split_at.ensures.back ∙ ap (drop c.loop-at.seen) c.held.ensures) c.in_default.ensures in
    let read = c.in_ok-read_more.ensures in
    record {
      gains = gains_then _ _ _ _ _ _ read.0 c.loop-at.invariant.gains read.1 read.2;
      within = grown _ _ read.0 _ c.held-seen.ensures read.1;
      open_line = open_front _ _ read.0 _ c.held-seen.ensures read.1 was;
    }
