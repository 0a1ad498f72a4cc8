use Rattle.std.proofs.Common.{length}
use Rattle.std.specs.List.{flat_map}
use Rattle.session_lines.specs.Printed.{led, row_text, rows_head}
use Rattle.session_lines.proofs.WritingLemmas.{took_first, took_then}
use Rattle.session_lines.proofs.writing.write_rows.Goals as goal

pub returns-in_err-write_count : goal.returns-in_err-write_count
returns-in_err-write_count g c =
    took_first c.from_residual.result c.from_residual.ensures.0 _ _ (led c.args.lead.now (rows_head (length c.args.rows.now))) (flat_map (λ row. led c.args.lead.now (row_text row)) c.args.rows.now) c.in_err-write_count.ensures

pub returns : goal.returns
returns g c =
    took_then c.write_each.result _ _ _ (led c.args.lead.now (rows_head (length c.args.rows.now))) (flat_map (λ row. led c.args.lead.now (row_text row)) c.args.rows.now) c.in_ok-write_count.ensures c.write_each.ensures
