use Rattle.session_lines.specs.Serving.{DeskTells}
use Rattle.session_lines.specs.Desks.{desk}
use Rattle.session_lines.proofs.ServingLemmas.{run_calls}
use Rattle.line_streams.proofs.StreamLemmas.{ran_on_along, ran_within}
use Rattle.session_lines.proofs.serving.serve_on.Goals as goal

pub returns-clause-ran : goal.returns-clause-ran
returns-clause-ran g c start whole holds =
    rw c.replace.ensures.value at (ran_on_along (λ s. desk s.1.staged s.0) (DeskTells g.S.Service.keys_of g.S.Service.subject_of g.S.Service.serves) _ c.go_on_within-ended.result _ _ _ _ _ _ _ (c.go_on_within-ended.ensures start whole holds))

pub returns-clause-calls : goal.returns-clause-calls
returns-clause-calls g c =
    let begun = c.fact_start.ensures in
    run_calls g.S.Service.keys_of g.S.Service.subject_of g.S.Service.serves c.go_on_within-ended.result _ _ _ _ _ _
    (ran_within (DeskTells g.S.Service.keys_of g.S.Service.subject_of g.S.Service.serves) _ c.go_on_within-ended.result _ _ _ _ _ _ _
    (ran_on_along (λ s. desk s.1.staged s.0) (DeskTells g.S.Service.keys_of g.S.Service.subject_of g.S.Service.serves) _ c.go_on_within-ended.result _ _ _ _ _ _ _ (c.go_on_within-ended.ensures begun.0 begun.1 begun.2)))
