use Rattle.std.proofs.Common.{codes}
use Rattle.session_lines.specs.Printed.{lead_text}
use Rattle.session_lines.proofs.WritingLemmas.{line_failed, line_written}
use Rattle.session_lines.proofs.writing.write_text.Goals as goal

pub returns-in_err-write_whole : goal.returns-in_err-write_whole
returns-in_err-write_whole g c =
    let head = rw (c.as_slice.ensures.value, c.begin-line.ensures.items) at c.in_err-write_whole.ensures in
    line_failed c.from_residual.result c.from_residual.ensures.0 _ _ (lead_text c.args.lead.now) c.args.text.now (codes "\n") head

pub returns : goal.returns
returns g c =
    let head = rw (c.as_slice.ensures.value, c.begin-line.ensures.items) at c.in_ok-write_whole.ensures in
    line_written c.write_ended.result _ _ _ (lead_text c.args.lead.now) c.args.text.now (codes "\n") head c.write_ended.ensures
