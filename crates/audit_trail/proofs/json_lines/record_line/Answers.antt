use Rattle.std.proofs.Common.{ap, ◌∙◌}
use Rattle.std.proofs.lemmas.Result.{IfOk-weaker}
use Rattle.std.proofs.Common.{◌≡◌, false}
use Rattle.serde_json.specs.View.{view}
use Rattle.serde_json.specs.Written.{has_float, compact_text}
use Rattle.audit_trail.proofs.LineLemmas.{line_whole}
use Rattle.audit_trail.proofs.json_lines.record_line.Goals as goal

pub returns : goal.returns
returns g c =
    let whole : has_float (view c.in_ok-value.value) ≡ false = rw c.in_ok-value.ensures.value (line_whole c.args.number c.args.entry.now c.in_ok-value.ensures.documented) in
    IfOk-weaker c.json_text.result _ _ (λ s told. told whole ∙ ap compact_text c.in_ok-value.ensures.value) c.json_text.ensures.text
