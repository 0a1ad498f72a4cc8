use Rattle.std.proofs.Common.{inl, sym, ◌∙◌}
use Rattle.client.specs.Held.{held}
use Rattle.client.proofs.LineLemmas.{line_moved, line_taken}
use Rattle.client.proofs.SendLemmas.{last_sent}
use Rattle.client.proofs.talks.send_line.Goals as goal

pub returns-in-Ok-Open : goal.returns-in-Ok-Open
returns-in-Ok-Open g c =
    let found = rw c.in-Ok-Open.field-0-is at c.in-Ok-Open.ensures.finds in
    last_sent c.send_last.result (held c.args.asked.now) (held c.read_line.new.self) (held c.send_last.new.asked) _ _ _ _ c.in-Ok-Open.ensures.gains found.0 found.1 c.send_last.ensures

pub returns-in-Err : goal.returns-in-Err
returns-in-Err g c =
    let now = held c.read_line.new.self in
    let count = c.in-Ok-Whole.count in
    let found = rw c.in-Ok-Whole.field-0-is at c.in-Ok-Whole.ensures.finds in
    let part = c.in-Err.ensures.sends in
    record {
      line = found.line;
      front = part.0;
      left = part.1;
      is_line = found.is_line;
      takes = inl (line_moved _ now _ _ _ count c.in-Ok-Whole.ensures.gains found c.send_held.ensures.passes);
      parts = sym (line_taken now count found) ∙ part.2;
      sends = part.3;
    }
