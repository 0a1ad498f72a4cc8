use Rattle.std.proofs.Common.{string_bytes}
use Rattle.session_lines.specs.Printed.{led}
use Rattle.session_lines.proofs.WritingLemmas.{items_failed, items_more}
use Rattle.session_lines.proofs.writing.write_each_text.Goals as goal

pub returns-in_err-write_text : goal.returns-in_err-write_text
returns-in_err-write_text g c =
    let failed = rw c.as_bytes.ensures.value at c.in_err-write_text.ensures in
    items_failed (λ text. led c.args.lead.now (string_bytes text)) c.from_residual.result c.from_residual.ensures.0 c.args.texts.now c.loop-text.text-index c.text-item.result _ _ _ c.loop-text-test.true c.text-item.is c.loop-text.invariant failed

pub loop-text-preserved : goal.loop-text-preserved
loop-text-preserved g c =
    let written = rw c.as_bytes.ensures.value at c.in_ok-write_text.ensures in
    items_more (λ text. led c.args.lead.now (string_bytes text)) c.args.texts.now c.loop-text.text-index c.text-item.result _ _ _ c.loop-text-test.true c.text-item.is c.loop-text.invariant written
