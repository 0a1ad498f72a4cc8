use Rattle.std.proofs.Common.{sym, subst}
use Rattle.policy_text.specs.Reading.{Gives}
use Rattle.policy_text.proofs.EachLemmas.{Gives-residual}
use Rattle.policy_text.proofs.BytesLemmas.{document_of_bytes-read, json_fault-fails, read-filled}
use Rattle.policy_text.proofs.texts.read_document.Goals as goal

pub returns-in_err-value-clause-value : goal.returns-in_err-value-clause-value
returns-in_err-value-clause-value g c =
    Gives-residual _ _ _ _ c.from_residual.ensures.1 (json_fault-fails c.args.text.now c.in_err-value.field-0.0 c.in_err-value.ensures.text)

pub returns-clause-value : goal.returns-clause-value
returns-clause-value g c =
    let read = c.in_ok-value.ensures.ok in
    subst (λ reading. Gives (λ document. document) c.document_of_value.result reading) (sym (document_of_bytes-read c.args.text.now _ read.0 read.1)) c.document_of_value.ensures

pub returns-clause-empty : goal.returns-clause-empty
returns-clause-empty g c = λ none. read-filled c.args.text.now _ none c.in_ok-value.ensures.ok.1
