-- A document has one ruling on a question.
use Rattle.std.proofs.Common.{◌≡◌, ap, sym, ◌∙◌}
use Rattle.policy_documents.specs.Documents.{DocumentData}
use Rattle.combining.specs.declared.questions.Question.{Question}
use Rattle.combining.specs.declared.decisions.Verdict.{Verdict}
use Rattle.combining.proofs.OneAnswer.{Answers-one}
use Rattle.decision.specs.declared.rulings.Ruling.{Ruling}
use Rattle.decision.specs.Rulings.{Rules, ruling_by}

pub Rules-one : (document : DocumentData) (question : Question) (a b : Ruling) → Rules document question a → Rules document question b → a ≡ b
Rules-one document question a b first second =
    first.is
    ∙ ap (λ (v : Verdict). ruling_by v.decision v.rule) (Answers-one document question first.verdict second.verdict first.answers second.answers)
    ∙ sym second.is
