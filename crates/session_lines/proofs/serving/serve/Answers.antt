use Rattle.std.proofs.Common.{[], refl}
use Rattle.session_lines.specs.Serving.{DeskTells}
use Rattle.session_lines.proofs.ServingLemmas.{from_the_start, out_of_memory, served_text_of}
use Rattle.line_streams.proofs.StreamLemmas.{never_memory}
use Rattle.line_streams.proofs.LineLemmas.{no_line}
use Rattle.session_lines.proofs.serving.serve.Goals as goal

pub returns-in_err-sitting-clause-ran : goal.returns-in_err-sitting-clause-ran
returns-in_err-sitting-clause-ran g c =
    ([], out_of_memory g.S.Service.keys_of g.S.Service.subject_of g.S.Service.serves c.from_residual.result _ _ _ _ c.from_residual.ensures.1)

pub returns-in_err-sitting-clause-calls : goal.returns-in_err-sitting-clause-calls
returns-in_err-sitting-clause-calls g c = ([], refl)

pub returns-clause-served_text : goal.returns-clause-served_text
returns-clause-served_text g c =
    served_text_of g.S.Service.keys_of g.S.Service.subject_of g.S.Service.serves c.serve_on.result _ _ _ _ _ _ _
    (from_the_start g.S.Service.keys_of g.S.Service.subject_of g.S.Service.serves c.serve_on.result _ _ _ _ _ _ _ _ _ c.in_ok-sitting.ensures.0 (c.serve_on.ensures.ran [] no_line c.in_ok-sitting.ensures.1))

pub returns-clause-ran : goal.returns-clause-ran
returns-clause-ran g c = (
  c.serve_on.new.sitting.staged,
  from_the_start g.S.Service.keys_of g.S.Service.subject_of g.S.Service.serves c.serve_on.result _ _ _ _ _ _ _ _ _ c.in_ok-sitting.ensures.0 (c.serve_on.ensures.ran [] no_line c.in_ok-sitting.ensures.1),
)

pub returns-clause-untouched : goal.returns-clause-untouched
returns-clause-untouched g c =
    never_memory (DeskTells g.S.Service.keys_of g.S.Service.subject_of g.S.Service.serves) _ c.serve_on.result _ _ _ _ _ _ _ _ (c.serve_on.ensures.ran [] no_line c.in_ok-sitting.ensures.1)
