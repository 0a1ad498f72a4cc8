use Rattle.std.proofs.Common.{sym, ap, ◌∙◌, Ok}
use Rattle.policy_text.proofs.EachLemmas.{Gives-residual}
use Rattle.policy_text.proofs.DocumentLaws.{document_in-IsDocument}
use Rattle.policy_text.proofs.texts.document_of_value.Goals as goal

pub returns-in_err-zones : goal.returns-in_err-zones
returns-in_err-zones g c = Gives-residual _ _ _ _ c.from_residual.ensures.1 c.in_err-zones.ensures

pub new-requires : goal.new-requires
new-requires g c = document_in-IsDocument _ _ c.in_ok-zones.ensures

pub returns : goal.returns
returns g c = c.in_ok-zones.ensures ∙ ap Ok (sym c.new.ensures)
