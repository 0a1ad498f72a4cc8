-- Sending a line.
use Rattle.std.proofs.Common.{ℕ, List, Option, Result, Ok, Err, append-nil, inr, sym, subst, ◌∙◌}
use Rattle.std.specs.Io.KnownBytes.{IsAtEnd}
use Rattle.line_streams.specs.Streams.{IsLine}
use Rattle.client.specs.Lines.{Gains}
use Rattle.client.specs.Steps.{SendsLast, SendsLine}
use Rattle.client.specs.declared.faults.Gone.TheVariants.{Ended, Unread, Unsent}
use Rattle.client.specs.declared.faults.TalkFault.{TalkFault}
use Rattle.client.specs.declared.faults.TalkFault.TheVariants as faults
use Rattle.client.specs.declared.talks.Sent.{Sent}
use Rattle.client.specs.declared.talks.Sent.TheVariants.{Line, Last, Nothing}

-- the input is at its end, and the held bytes, if any, were sent as its last line
pub last_sent : (r : Result Sent TalkFault) (old mid new : List ℕ) (input left before after : Option (List ℕ)) → Gains old mid input left → IsLine mid → IsAtEnd left → SendsLast r mid new before after
    → SendsLine r old new input left before after
last_sent (Ok Line) old mid new input left before after gains open_line at_end sends = absurd sends
last_sent (Ok Last) old mid new input left before after gains open_line at_end sends =
    (mid, open_line, (sends.0, (gains.0, gains.2, sym gains.1 ∙ sym (append-nil mid)), at_end, sends.1), sends.2)
last_sent (Ok Nothing) old mid new input left before after gains open_line at_end sends =
    ((gains.0, gains.2, sym gains.1 ∙ sends.0 ∙ sym sends.1), sends.1, at_end, sends.2)
last_sent (Err (faults.Memory refused)) old mid new input left before after gains open_line at_end sends =
    (((gains.0, gains.2, sym gains.1 ∙ sym sends.0), subst IsLine (sym sends.0) open_line), sends.1)
last_sent (Err (faults.Gone (Unsent failed))) old mid new input left before after gains open_line at_end sends = record {
  line = mid;
  front = sends.0;
  left = sends.1;
  is_line = open_line;
  takes = inr (sends.2, (gains.0, gains.2, sym gains.1 ∙ sym (append-nil mid)), at_end, sends.3);
  parts = sends.4;
  sends = sends.5;
}
last_sent (Err (faults.Input failed)) old mid new input left before after gains open_line at_end sends = absurd sends
last_sent (Err (faults.Output failed)) old mid new input left before after gains open_line at_end sends = absurd sends
last_sent (Err (faults.Gone Ended)) old mid new input left before after gains open_line at_end sends = absurd sends
last_sent (Err (faults.Gone (Unread failed))) old mid new input left before after gains open_line at_end sends = absurd sends
last_sent (Err faults.TooManyLines) old mid new input left before after gains open_line at_end sends = absurd sends
