-- A document has one verdict on a question.
use Rattle.std.proofs.Common.{◌≡◌, ℕ, List, ◌∷◌, refl, sym, ap, ◌∙◌}
use Rattle.plane.specs.declared.point.Point.{Point}
use Rattle.policy_documents.specs.Documents.{DocumentData}
use Rattle.policy_documents.specs.declared.zones.Zone.{Zone}
use Rattle.combining.specs.declared.questions.Question.{Question}
use Rattle.combining.specs.declared.decisions.Verdict.{Verdict}
use Rattle.combining.specs.Holding.{AreMet, none, meets, apart}
use Rattle.combining.specs.Deciding.{Answers, verdict_of}

pub AreMet-one : (shape : List Point) (zones : List Zone) (a b : List (List ℕ)) → AreMet shape zones a → AreMet shape zones b → a ≡ b
AreMet-one shape _ _ _ none none = refl
AreMet-one shape _ _ _ (meets zone here first) (meets _ again second) = ap (λ names. zone.name ∷ names) (AreMet-one shape _ _ _ first second)
AreMet-one shape _ _ _ (meets zone here first) (apart _ there second) = absurd (there here)
AreMet-one shape _ _ _ (apart zone there first) (meets _ here second) = absurd (there here)
AreMet-one shape _ _ _ (apart zone there first) (apart _ again second) = AreMet-one shape _ _ _ first second

pub Answers-one : (document : DocumentData) (question : Question) (a b : Verdict) → Answers document question a → Answers document question b → a ≡ b
Answers-one document question a b first second =
    first.is ∙ ap (λ met. verdict_of question met document.root) (AreMet-one question.shape document.zones first.met second.met first.are_met second.are_met) ∙ sym second.is
