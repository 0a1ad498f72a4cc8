-- The ruling of the last published policy, and its rule.
use Rattle.std.specs.Prelude.{◌≡◌, ℕ, List, Option, None, Some}
use Rattle.std.specs.List.{last_or}
use Rattle.policy_documents.specs.Documents.{rule_named}
use Rattle.combining.specs.declared.questions.Question.{Question}
use Rattle.decision.specs.Deciders.{DeciderData}
use Rattle.decision.specs.Rulings.{Rules}
use Rattle.decision.specs.declared.rulings.Ruling.{Ruling}
use Rattle.decision.specs.declared.rulings.Ruling.TheVariants.{Permit, DeniedBy, NoneApplied}
use Rattle.published_policies.specs.declared.explaining.Explained.{Explained}

-- the number of the rule that decided, if one did
abbrev pub rule_in : Ruling → Option ℕ
rule_in (Permit rule) = rule
rule_in (DeniedBy rule) = Some rule
rule_in NoneApplied = None

-- the name of a rule in a decider's document, if there is such a rule
abbrev pub name_of_rule : DeciderData → Option ℕ → Option (List ℕ)
name_of_rule decider None = None
name_of_rule decider (Some number) = rule_named number decider.document.root

-- a decider's edition, its document's ruling, and the document's name of the rule that decided
pub record ExplainsBy (decider : DeciderData) (question : Question) (explained : Explained) : Type 0
  where
    pub edition : explained.edition ≡ decider.edition
    pub ruling : Rules decider.document question explained.ruling
    pub rule : explained.rule ≡ name_of_rule decider (rule_in explained.ruling)

-- the same for the last decider of a list
pub record Explains (list : List DeciderData) (question : Question) (explained : Explained) : Type 0
  where
    pub decider : DeciderData
    pub last : last_or None list ≡ Some decider
    pub explains : ExplainsBy decider question explained
