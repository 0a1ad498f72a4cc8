use Rattle.session_lines.specs.Printed.{led, row_text}
use Rattle.session_lines.proofs.WritingLemmas.{items_failed, items_more}
use Rattle.session_lines.proofs.writing.write_each.Goals as goal

pub returns-in_err-write_row : goal.returns-in_err-write_row
returns-in_err-write_row g c =
    items_failed (λ row. led c.args.lead.now (row_text row)) c.from_residual.result c.from_residual.ensures.0 c.args.rows.now c.loop-row.row-index c.row-item.result _ _ _ c.loop-row-test.true c.row-item.is c.loop-row.invariant c.in_err-write_row.ensures

pub loop-row-preserved : goal.loop-row-preserved
loop-row-preserved g c =
    items_more (λ row. led c.args.lead.now (row_text row)) c.args.rows.now c.loop-row.row-index c.row-item.result _ _ _ c.loop-row-test.true c.row-item.is c.loop-row.invariant c.in_ok-write_row.ensures
