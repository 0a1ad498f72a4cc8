use Rattle.std.proofs.Common.{◌*◌, ◌∙◌}
use Rattle.frame_keys.proofs.Stretches.{shared_ends, across_ends, up_ends}
use Rattle.frame_keys.proofs.measure.overlap.Goals as goal

pub returns-clause-value : goal.returns-clause-value
returns-clause-value c =
    let h = c.x0.ensures.frame in
    let k = c.x0-2.ensures.frame in
    let across = c.shared-across.ensures.value ∙ shared_ends _ _ _ _ _ _ _ _ c.x0.ensures.value c.x1.ensures c.x0-2.ensures.value c.x1-2.ensures (across_ends c.args.frame c.args.other h k) in
    let up = c.shared-up.ensures.value ∙ shared_ends _ _ _ _ _ _ _ _ c.y0.ensures c.y1.ensures c.y0-2.ensures c.y1-2.ensures (up_ends c.args.frame c.args.other h k) in
    λ i. across i * up i
