use Rattle.std.proofs.Common.{string_bytes}
use Rattle.std.proofs.lemmas.Result.{IfOk-weaker}
use Rattle.std.proofs.lemmas.Str.{IsUtf8-string_bytes}
use Rattle.policy_text.proofs.PrintedTexts.{printed-text, printed-read}
use Rattle.policy_text.proofs.printing.print_document.Goals as goal

pub returns-clause-text : goal.returns-clause-text
returns-clause-text g c =
    IfOk-weaker c.json_text.result _ _ (λ s told. printed-text c.args.document.now _ (string_bytes s) c.document_value.ensures.sound c.in_ok-document_value.ensures.value told) c.json_text.ensures.text

pub returns-clause-read : goal.returns-clause-read
returns-clause-read g c =
    IfOk-weaker c.json_text.result _ _ (λ s told. printed-read c.args.document.now _ (string_bytes s) c.document_value.ensures.sound c.in_ok-document_value.ensures.value (IsUtf8-string_bytes s) told) c.json_text.ensures.reads_back
