-- Decisions, after XACML 3.0, appendix C: each algorithm takes the children's decisions as a list.
use Rattle.std.specs.Prelude.{ℕ, Bool, true, false, not, List, [], ◌∷◌, map, if◌then◌else◌}
use Rattle.std.specs.List.{list_any}
use Rattle.policy_documents.specs.Documents.{RuleData, NodeData, set, policy, Children, no_children, child}
use Rattle.policy_documents.specs.declared.algorithms.Effect.{Effect}
use Rattle.policy_documents.specs.declared.algorithms.Effect.TheVariants as effects
use Rattle.policy_documents.specs.declared.algorithms.Algorithm.{Algorithm}
use Rattle.policy_documents.specs.declared.algorithms.Algorithm.TheVariants.{DenyOverrides, PermitOverrides, DenyUnlessPermit, PermitUnlessDeny, FirstApplicable}
use Rattle.combining.specs.declared.questions.Question.{Question}
use Rattle.combining.specs.declared.decisions.Decision.{Decision}
use Rattle.combining.specs.declared.decisions.Decision.TheVariants.{Permit, Deny, NotApplicable}
use Rattle.combining.specs.Holding.{target_holds, rule_applies}

abbrev pub is_permit : Decision → Bool
is_permit Permit = true
is_permit Deny = false
is_permit NotApplicable = false

abbrev pub is_deny : Decision → Bool
is_deny Permit = false
is_deny Deny = true
is_deny NotApplicable = false

abbrev pub is_not_applicable : Decision → Bool
is_not_applicable Permit = false
is_not_applicable Deny = false
is_not_applicable NotApplicable = true

-- the decision of the first child that is applicable
abbrev pub first_applicable : List Decision → Decision
first_applicable [] = NotApplicable
first_applicable (NotApplicable ∷ rest) = first_applicable rest
first_applicable (Permit ∷ rest) = Permit
first_applicable (Deny ∷ rest) = Deny

-- the decision of an algorithm over its children: XACML 3.0, C.2, C.4, C.6, C.7 and C.8
abbrev pub combined : Algorithm → List Decision → Decision
combined DenyOverrides ds = if list_any is_deny ds then Deny else if list_any is_permit ds then
    Permit else NotApplicable
combined PermitOverrides ds = if list_any is_permit ds then Permit else if list_any is_deny ds then
    Deny else NotApplicable
combined DenyUnlessPermit ds = if list_any is_permit ds then Permit else Deny
combined PermitUnlessDeny ds = if list_any is_deny ds then Deny else Permit
combined FirstApplicable ds = first_applicable ds

-- a child with this decision settles the algorithm's decision, if no child before it did
abbrev pub is_settled : Algorithm → Decision → Bool
is_settled DenyOverrides d = is_deny d
is_settled PermitOverrides d = is_permit d
is_settled DenyUnlessPermit d = is_permit d
is_settled PermitUnlessDeny d = is_deny d
is_settled FirstApplicable d = not (is_not_applicable d)

abbrev pub effect_decision : Effect → Decision
effect_decision effects.Permit = Permit
effect_decision effects.Deny = Deny

-- the decisions for a question whose shape meets the zones of these names
module _ (q : Question) (met : List (List ℕ)) where
  -- a rule that applies decides its effect
  abbrev pub rule_decision : RuleData → Decision
  rule_decision rule = if rule_applies q met rule then effect_decision rule.effect
      else NotApplicable

  -- a set or a policy combines its children if its target holds
  abbrev mutual
    pub decision_of : NodeData → Decision
    decision_of (set head children) =
        if target_holds q met head.target then combined head.combine (decisions_of children)
        else NotApplicable
    decision_of (policy head rules) =
        if target_holds q met head.target then combined head.combine (map rule_decision rules)
        else NotApplicable

    pub decisions_of : Children → List Decision
    decisions_of no_children = []
    decisions_of (child node rest) = decision_of node ∷ decisions_of rest
