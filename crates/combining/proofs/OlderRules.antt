-- The first deciding rule of a document that uses only the three older algorithms.
use Rattle.std.proofs.Common.{◌≡◌, ℕ, Bool, true, false, ◌&&◌, ◌||◌, List, [], ◌∷◌, map, is_some, refl, sym, ap, subst, ◌∙◌, true≢false, if◌then◌else◌}
use Rattle.std.specs.List.{list_any, position_from}
use Rattle.policy_documents.specs.Documents.{RuleData, NodeData, set, policy, Children, no_children, child}
use Rattle.policy_documents.specs.declared.algorithms.Effect.{Effect}
use Rattle.policy_documents.specs.declared.algorithms.Effect.TheVariants as effects
use Rattle.combining.specs.declared.questions.Question.{Question}
use Rattle.combining.specs.declared.decisions.Decision.{Decision}
use Rattle.combining.specs.declared.decisions.Decision.TheVariants.{Permit, Deny, NotApplicable}
use Rattle.combining.specs.Holding.{target_holds, rule_applies}
use Rattle.combining.specs.Decisions.{is_not_applicable, effect_decision, combined, rule_decision, decision_of, decisions_of}
use Rattle.combining.specs.Deciding.{is_decision, is_deciding, rule_part, placed_rules, parts_of, first_deciding}
use Rattle.combining.specs.ThreeAlgorithms.{older_within, older_bare, is_older, uses_older, all_use_older, older_rules, older_rules_of_all, is_older_deciding, older_first_deciding}
use Rattle.combining.proofs.FirstMarks.{mark, SameFirst, none, here, later, SameFirst-position, position_from-marks, position_from-unmarked, position_from-marked}
use Rattle.combining.proofs.OlderDecisions.{and_left, and_right, is_decision-refl, chosen, decision_of-older}
use Rattle.combining.proofs.OlderMarks.{Made, AllMade, no_parts, part_made}
use Rattle.combining.proofs.OlderParts.{made_within}

module _ (q : Question) (met : List (List ℕ)) where
  decisions_of-parts : (children : Children) → decisions_of q met children ≡ map (λ part. part.0) (parts_of q met children)
  decisions_of-parts no_children = refl
  decisions_of-parts (child node rest) = ap (λ ds. decision_of q met node ∷ ds) (decisions_of-parts rest)

  decisions_of-rules : (rules : List RuleData) → map (rule_decision q met) rules ≡ map (λ part. part.0) (map (rule_part q met) rules)
  decisions_of-rules [] = refl
  decisions_of-rules (rule ∷ rules) = ap (λ ds. rule_decision q met rule ∷ ds) (decisions_of-rules rules)

  module _ (d : Decision) (applicable : is_not_applicable d ≡ false) where
    one_mark : (b : Bool) → SameFirst (b ∷ []) (b ∷ [])
    one_mark true = here refl
    one_mark false = later none

    -- a rule that decides d applies and has that effect
    effect_made : (b : Bool) (f : Effect) → (if b then effect_decision f else NotApplicable) ≡ d → list_any mark ((b && is_decision d (effect_decision f)) ∷ []) ≡ true
    effect_made true f is = ap (λ e. is_decision d e || false) is ∙ ap (λ b. b || false) (is_decision-refl d)
    effect_made false f is = absurd (true≢false (ap is_not_applicable is ∙ applicable))

    rules_made : (rules : List RuleData) → AllMade q met d (map (rule_part q met) rules) (map older_bare rules)
    rules_made [] = no_parts
    rules_made (rule ∷ rules) = part_made (rule_decision q met rule) (record { rule = rule; enclosing = [] } ∷ []) (older_bare rule ∷ []) (record {
      same = one_mark (rule_applies q met rule && is_decision d (effect_decision rule.effect));
      found = effect_made (rule_applies q met rule) rule.effect;
    }) (rules_made rules)

    mutual
      node_made : (node : NodeData) → uses_older node ≡ true → Made q met d (decision_of q met node) (placed_rules q met node) (older_rules q met node)
      node_made (set head children) older =
          let e = decision_of q met (set head children) in
          subst (λ o. Made q met d e (placed_rules q met (set head children)) (map (older_within o) (older_rules_of_all q met children))) (decision_of-older q met (set head children) older)
          (made_within q met d applicable head.combine e (parts_of q met children) (older_rules_of_all q met children) (and_left (is_older head.combine) (all_use_older children) older)
          (λ is. sym (ap (combined head.combine) (decisions_of-parts children)) ∙ chosen (target_holds q met head.target) (combined head.combine (decisions_of q met children)) d applicable is)
          (children_made children (and_right (is_older head.combine) (all_use_older children) older)))
      node_made (policy head rules) older =
          let e = decision_of q met (policy head rules) in
          subst (λ o. Made q met d e (placed_rules q met (policy head rules)) (map (older_within o) (map older_bare rules))) (decision_of-older q met (policy head rules) older)
          (made_within q met d applicable head.combine e (map (rule_part q met) rules) (map older_bare rules) older
          (λ is. sym (ap (combined head.combine) (decisions_of-rules rules)) ∙ chosen (target_holds q met head.target) (combined head.combine (map (rule_decision q met) rules)) d applicable is)
          (rules_made rules))

      children_made : (children : Children) → all_use_older children ≡ true → AllMade q met d (parts_of q met children) (older_rules_of_all q met children)
      children_made no_children older = no_parts
      children_made (child node rest) older =
          part_made (decision_of q met node) (placed_rules q met node) (older_rules q met node) (node_made node (and_left (uses_older node) (all_use_older rest) older))
          (children_made rest (and_right (uses_older node) (all_use_older rest) older))

  -- no rule has the effect NotApplicable
  no_effect : (a b : Bool) (d : Decision) (f : Effect) → is_not_applicable d ≡ true → (a && (b && is_decision d (effect_decision f))) ≡ false
  no_effect false b d f is = refl
  no_effect true false d f is = refl
  no_effect true true Permit f is = absurd (true≢false (sym is))
  no_effect true true Deny f is = absurd (true≢false (sym is))
  no_effect true true NotApplicable effects.Permit is = refl
  no_effect true true NotApplicable effects.Deny is = refl

  same_first : (b : Bool) (d : Decision) (root : NodeData) → uses_older root ≡ true → is_not_applicable d ≡ b →
      position_from (is_deciding q met d) 1 (placed_rules q met root) ≡ position_from (is_older_deciding q met d) 1 (older_rules q met root)
  same_first true d root older is =
      position_from-unmarked (is_deciding q met d) (λ p. no_effect _ _ d p.rule.effect is) 1 (placed_rules q met root)
      ∙ sym (position_from-unmarked (is_older_deciding q met d) (λ p. no_effect _ _ d p.rule.effect is) 1 (older_rules q met root))
  same_first false d root older is =
      sym (position_from-marks (is_deciding q met d) 1 (placed_rules q met root)) ∙ SameFirst-position 1 _ _ (node_made d is root older).same
      ∙ position_from-marks (is_older_deciding q met d) 1 (older_rules q met root)

  pub first_deciding-older : (root : NodeData) → uses_older root ≡ true → first_deciding q met root ≡ older_first_deciding q met root
  first_deciding-older root older =
      same_first (is_not_applicable (decision_of q met root)) (decision_of q met root) root older refl
      ∙ ap (λ d. position_from (is_older_deciding q met d) 1 (older_rules q met root)) (decision_of-older q met root older)

  -- each Permit and each Deny was made by a rule
  pub first_deciding-some : (root : NodeData) → uses_older root ≡ true → is_not_applicable (decision_of q met root) ≡ false → is_some (first_deciding q met root) ≡ true
  first_deciding-some root older applicable =
      position_from-marked (is_deciding q met (decision_of q met root)) 1 (placed_rules q met root) ((node_made (decision_of q met root) applicable root older).found refl)
