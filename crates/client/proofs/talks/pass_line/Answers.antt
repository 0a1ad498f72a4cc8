use Rattle.std.proofs.Common.{ap, codes, drop, subst, take, IsTrue, ◌++◌, ◌↔◌, ◌≡◌, ◌∙◌}
use Rattle.std.specs.Io.KnownBytes.{Appends}
use Rattle.line_streams.proofs.LeavingLemmas.{left_by}
use Rattle.client.specs.Held.{held}
use Rattle.client.specs.Replies.{rows_behind}
use Rattle.client.specs.Steps.{PassesLine}
use Rattle.client.specs.declared.faults.TalkFault.TheVariants.{Output}
use Rattle.client.proofs.LineLemmas.{line_head, line_moved, line_part, line_taken, none_moved}
use Rattle.client.proofs.talks.pass_line.Goals as goal

pub returns-in_err-write_whole : goal.returns-in_err-write_whole
returns-in_err-write_whole g c =
    let now = held c.read_line.new.self in
    let count = c.in-Ok-Whole.count in
    let part = c.in_err-write_whole.ensures in
    let is = line_part now c.split_at.result.0.now part.0 part.1 count (c.split_at.ensures.front ∙ ap (take count) c.held.ensures) part.2 in
    left_by c.from_residual.result (Output c.in_err-write_whole.field-0.0)
    (λ r. PassesLine r (held c.args.told.now) now (g.P.Read.remaining c.args.peer.now) (g.P.Read.remaining c.read_line.new.reader) (g.W.Write.contents c.args.output.now) (g.W.Write.contents c.write_whole.new.writer))
    c.from_residual.ensures.1 (none_moved _ now _ _ c.in-Ok-Whole.ensures.gains, part.0, part.1 ++ drop count now, is, part.3)

pub returns : goal.returns
returns g c =
    let now = held c.read_line.new.self in
    let count = c.in-Ok-Whole.count in
    let found = rw c.in-Ok-Whole.field-0-is at c.in-Ok-Whole.ensures.finds in
    let whole = c.split_at.ensures.front ∙ ap (take count) c.held.ensures in
    let head = line_head now c.split_at.result.0.now c.split_at-2.result.0.now count found whole c.split_at-2.ensures.front in (
      found.line,
      found.is_line,
      (c.rows_of.ensures ∙ ap rows_behind head, subst (λ h. IsTrue c.is_farewell.result ↔ (h ≡ codes "bye")) head c.is_farewell.ensures),
      line_moved _ now _ _ _ count c.in-Ok-Whole.ensures.gains found c.pass.ensures,
      subst (Appends (g.W.Write.contents c.args.output.now) (g.W.Write.contents c.write_whole.new.writer)) (whole ∙ line_taken now count found) c.in_ok-write_whole.ensures,
    )
