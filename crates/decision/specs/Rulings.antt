-- How a document rules: only a Permit lets pass (the deny-biased enforcement point of OASIS XACML
-- 3.0, section 7.2).
use Rattle.std.specs.Prelude.{◌≡◌, ℕ, Option, None, Some}
use Rattle.policy_documents.specs.Documents.{DocumentData}
use Rattle.combining.specs.declared.questions.Question.{Question}
use Rattle.combining.specs.declared.decisions.Decision.{Decision}
use Rattle.combining.specs.declared.decisions.Decision.TheVariants as decisions
use Rattle.combining.specs.declared.decisions.Verdict.{Verdict}
use Rattle.combining.specs.Deciding.{Answers}
use Rattle.decision.specs.declared.rulings.Ruling.{Ruling}
use Rattle.decision.specs.declared.rulings.Ruling.TheVariants.{Permit, DeniedBy, NoneApplied}

-- the ruling for a decision and its first deciding rule, if there is one
abbrev pub ruling_by : Decision → Option ℕ → Ruling
ruling_by decisions.Permit rule = Permit rule
ruling_by decisions.Deny (Some rule) = DeniedBy rule
ruling_by decisions.Deny None = NoneApplied
ruling_by decisions.NotApplicable rule = NoneApplied

-- the document's ruling on a question follows from its verdict
pub record Rules (document : DocumentData) (question : Question) (ruling : Ruling) : Type 0 where
  pub verdict : Verdict
  pub answers : Answers document question verdict
  pub is : ruling ≡ ruling_by verdict.decision verdict.rule

-- the document permits what is asked, by a rule or by default
abbrev pub Permits : DocumentData → Question → Type 0
Permits document question = (rule : Option ℕ) × Rules document question (Permit rule)

-- the ruling of a denial: by this rule, or without one (by default, or because none applied)
abbrev pub denying : Option ℕ → Ruling
denying (Some rule) = DeniedBy rule
denying None = NoneApplied

-- the document denies what is asked, by this rule or without one
abbrev pub Denies : DocumentData → Question → Option ℕ → Type 0
Denies document question rule = Rules document question (denying rule)
