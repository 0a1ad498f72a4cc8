-- The deciding rules: those that made the document's decision.
use Rattle.std.specs.Prelude.{◌≡◌, ℕ, suc, slice_get, Bool, true, false, ◌&&◌, ◌||◌, List, [], ◌∷◌, ◌++◌, map, Option, Some, if◌then◌else◌}
use Rattle.std.specs.List.{list_all, position_from}
use Rattle.policy_documents.specs.Documents.{DocumentData, RuleData, NodeData, set, policy, Children, no_children, child, rule_named}
use Rattle.policy_documents.specs.declared.algorithms.Algorithm.{Algorithm}
use Rattle.policy_documents.specs.declared.algorithms.Algorithm.TheVariants.{DenyOverrides, PermitOverrides, DenyUnlessPermit, PermitUnlessDeny, FirstApplicable}
use Rattle.combining.specs.declared.questions.Question.{Question}
use Rattle.combining.specs.declared.decisions.Decision.{Decision}
use Rattle.combining.specs.declared.decisions.Verdict.{Verdict}
use Rattle.combining.specs.Holding.{AreMet, rule_applies}
use Rattle.combining.specs.Decisions.{is_permit, is_deny, is_not_applicable, effect_decision, rule_decision, decision_of}

-- a set or a policy around a rule: its algorithm, its decision, and the decisions of its children
-- before the one that has the rule
pub record Enclosing : Type 0 where
  pub combine : Algorithm
  pub decision : Decision
  pub earlier : List Decision

-- a rule, with the sets and policies around it, the outermost first
pub record Placed : Type 0 where
  pub rule : RuleData
  pub enclosing : List Enclosing

abbrev pub is_decision : Decision → Decision → Bool
is_decision d e = (is_permit d && is_permit e) || (is_deny d && is_deny e) ||
    (is_not_applicable d && is_not_applicable e)

abbrev pub is_first_applicable : Algorithm → Bool
is_first_applicable DenyOverrides = false
is_first_applicable PermitOverrides = false
is_first_applicable DenyUnlessPermit = false
is_first_applicable PermitUnlessDeny = false
is_first_applicable FirstApplicable = true

-- rules below it can make the decision d: it has that decision, and under first-applicable no
-- earlier child was applicable
abbrev pub is_open : Decision → Enclosing → Bool
is_open d e = is_decision d e.decision &&
    (if is_first_applicable e.combine then list_all is_not_applicable e.earlier else true)

abbrev pub within : Enclosing → Placed → Placed
within e p = record p { enclosing = e ∷ p.enclosing }

module _ (q : Question) (met : List (List ℕ)) where
  -- the rules of the parts of a node, if the children before have the decisions `earlier`
  abbrev pub placed_within : Algorithm → Decision → List Decision → List (Decision × List Placed)
      → List Placed
  placed_within a d earlier [] = []
  placed_within a d earlier (part ∷ parts) =
      map (within (record { combine = a; decision = d; earlier = earlier })) part.1 ++ placed_within
      a d (earlier ++ part.0 ∷ []) parts

  abbrev pub rule_part : RuleData → Decision × List Placed
  rule_part rule = (rule_decision q met rule, record { rule = rule; enclosing = [] } ∷ [])

  -- the rules below a node in document order, each with what is around it
  abbrev mutual
    pub placed_rules : NodeData → List Placed
    placed_rules (set head children) =
        placed_within head.combine (decision_of q met (set head children)) [] (parts_of children)
    placed_rules (policy head rules) =
        placed_within head.combine (decision_of q met (policy head rules)) [] (map rule_part rules)

    pub parts_of : Children → List (Decision × List Placed)
    parts_of no_children = []
    parts_of (child node rest) = (decision_of q met node, placed_rules node) ∷ parts_of rest

  -- the rule is one of those that made the decision d: it applies, has that effect, and all around
  -- it is open for d
  abbrev pub is_deciding : Decision → Placed → Bool
  is_deciding d p = list_all (is_open d) p.enclosing &&
      (rule_applies q met p.rule && is_decision d (effect_decision p.rule.effect))

  -- the number of the first deciding rule, counted from 1 in document order
  abbrev pub first_deciding : NodeData → Option ℕ
  first_deciding root = position_from (is_deciding (decision_of q met root)) 1 (placed_rules root)

  abbrev pub verdict_of : NodeData → Verdict
  verdict_of root = record { decision = decision_of q met root; rule = first_deciding root }

-- the rule of this number, counted from 1, made the decision, and `rule_named` finds it
pub record IsMadeBy (q : Question) (met : List (List ℕ)) (root : NodeData) (number : ℕ) : Type 0
  where
    pub index : ℕ
    pub placed : Placed
    pub counted : number ≡ suc index
    pub stands : slice_get (placed_rules q met root) index ≡ Some placed
    pub deciding : is_deciding q met (decision_of q met root) placed ≡ true
    pub named : rule_named number root ≡ Some placed.rule.name

-- the document's verdict on a question
pub record Answers (document : DocumentData) (q : Question) (verdict : Verdict) : Type 0 where
  pub met : List (List ℕ)
  pub are_met : AreMet q.shape document.zones met
  pub is : verdict ≡ verdict_of q met document.root
