-- Decisions and deciding rules with three algorithms: deny-overrides, permit-overrides and
-- first-applicable (XACML 3.0, C.2, C.4 and C.8). These definitions are older than
-- deny-unless-permit and permit-unless-deny; a law in `src/laws.rt` relates them to `Decisions` and
-- `Deciding`.
use Rattle.std.specs.Prelude.{ℕ, Bool, true, false, ◌&&◌, List, [], ◌∷◌, ◌++◌, map, Option, if◌then◌else◌}
use Rattle.std.specs.List.{list_all, list_any, position_from}
use Rattle.policy_documents.specs.Documents.{RuleData, NodeData, set, policy, Children, no_children, child}
use Rattle.policy_documents.specs.declared.algorithms.Algorithm.{Algorithm}
use Rattle.policy_documents.specs.declared.algorithms.Algorithm.TheVariants.{DenyOverrides, PermitOverrides, DenyUnlessPermit, PermitUnlessDeny, FirstApplicable}
use Rattle.combining.specs.declared.questions.Question.{Question}
use Rattle.combining.specs.declared.decisions.Decision.{Decision}
use Rattle.combining.specs.declared.decisions.Decision.TheVariants.{Permit, Deny, NotApplicable}
use Rattle.combining.specs.Holding.{target_holds, rule_applies}
use Rattle.combining.specs.Decisions.{is_permit, is_deny, first_applicable, effect_decision, rule_decision}
use Rattle.combining.specs.Deciding.{is_decision}

-- one of the three
abbrev pub is_older : Algorithm → Bool
is_older DenyOverrides = true
is_older PermitOverrides = true
is_older DenyUnlessPermit = false
is_older PermitUnlessDeny = false
is_older FirstApplicable = true

-- each set and policy has one of the three algorithms
abbrev mutual
  pub uses_older : NodeData → Bool
  uses_older (set head children) = is_older head.combine && all_use_older children
  uses_older (policy head rules) = is_older head.combine

  pub all_use_older : Children → Bool
  all_use_older no_children = true
  all_use_older (child node rest) = uses_older node && all_use_older rest

-- the decision of one of the three over its children: XACML 3.0, C.2, C.4 and C.8. For the two
-- others it is NotApplicable, only to make the function total; nothing uses that.
abbrev pub older_combined : Algorithm → List Decision → Decision
older_combined DenyOverrides ds =
    if list_any is_deny ds then Deny else if list_any is_permit ds then Permit else NotApplicable
older_combined PermitOverrides ds =
    if list_any is_permit ds then Permit else if list_any is_deny ds then Deny else NotApplicable
older_combined FirstApplicable ds = first_applicable ds
older_combined DenyUnlessPermit ds = NotApplicable
older_combined PermitUnlessDeny ds = NotApplicable

-- a rule, with the decisions of the sets and policies around it, the outermost first
pub record OlderPlaced : Type 0 where
  pub rule : RuleData
  pub enclosing : List Decision

-- a rule that is placed in one more set or policy, with the decision d
abbrev pub older_within : Decision → OlderPlaced → OlderPlaced
older_within d p = record p { enclosing = d ∷ p.enclosing }

-- a rule with nothing around it yet
abbrev pub older_bare : RuleData → OlderPlaced
older_bare rule = record { rule = rule; enclosing = [] }

module _ (q : Question) (met : List (List ℕ)) where
  -- a set or a policy combines its children if its target holds
  abbrev mutual
    pub older_decision : NodeData → Decision
    older_decision (set head children) =
        if target_holds q met head.target then older_combined head.combine
        (older_decisions children) else NotApplicable
    older_decision (policy head rules) =
        if target_holds q met head.target then older_combined head.combine
        (map (rule_decision q met) rules) else NotApplicable

    pub older_decisions : Children → List Decision
    older_decisions no_children = []
    older_decisions (child node rest) = older_decision node ∷ older_decisions rest

  -- the rules below a node in document order, with the decisions around them
  abbrev mutual
    pub older_rules : NodeData → List OlderPlaced
    older_rules (set head children) =
        map (older_within (older_decision (set head children))) (older_rules_of_all children)
    older_rules (policy head rules) =
        map (older_within (older_decision (policy head rules))) (map older_bare rules)

    pub older_rules_of_all : Children → List OlderPlaced
    older_rules_of_all no_children = []
    older_rules_of_all (child node rest) = older_rules node ++ older_rules_of_all rest

  -- the rule is one of those that made the decision d: it applies, has that effect, and every set
  -- and policy around it has that decision; the order of the children does not matter
  abbrev pub is_older_deciding : Decision → OlderPlaced → Bool
  is_older_deciding d p = list_all (is_decision d) p.enclosing &&
      (rule_applies q met p.rule && is_decision d (effect_decision p.rule.effect))

  -- the number of the first deciding rule, counted from 1 in document order
  abbrev pub older_first_deciding : NodeData → Option ℕ
  older_first_deciding root = position_from (is_older_deciding (older_decision root)) 1
      (older_rules root)
