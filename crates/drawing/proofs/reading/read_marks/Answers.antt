use Rattle.drawing.specs.Gathering.{LineGathers, gathered}
use Rattle.drawing.proofs.GatheringLemmas.{finished, on_ok, run_gathers}
use Rattle.drawing.proofs.reading.read_marks.Goals as goal
use Rattle.line_streams.proofs.StreamLemmas.{ran_along}

pub returns : goal.returns
returns g c =
    let ran = ran_along (λ s. gathered s.0.marks.items s.0.stop) LineGathers c.run_lines.result _ _ _ _ _ _ c.run_lines.ensures.ran in
    let reads = on_ok c.run_lines.result c.in_ok-run_lines.field-0 _ c.in_ok-run_lines.was (run_gathers _ _ _ _ _ _ _ ran) in
    finished (λ v. v.items) c.finish.result _ _ _ _ _ reads c.finish.ensures.marks c.finish.ensures.none
