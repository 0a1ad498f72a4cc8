-- Decisions of documents that use only the three older algorithms.
use Rattle.std.proofs.Common.{◌≡◌, ℕ, Bool, true, false, ◌&&◌, List, [], ◌∷◌, map, refl, sym, ap, ◌∙◌, true≢false, if◌then◌else◌}
use Rattle.std.specs.List.{list_any}
use Rattle.policy_documents.specs.Documents.{NodeData, set, policy, Children, no_children, child}
use Rattle.policy_documents.specs.declared.algorithms.Algorithm.{Algorithm}
use Rattle.policy_documents.specs.declared.algorithms.Algorithm.TheVariants.{DenyOverrides, PermitOverrides, DenyUnlessPermit, PermitUnlessDeny, FirstApplicable}
use Rattle.combining.specs.declared.questions.Question.{Question}
use Rattle.combining.specs.declared.decisions.Decision.{Decision}
use Rattle.combining.specs.declared.decisions.Decision.TheVariants.{Permit, Deny, NotApplicable}
use Rattle.combining.specs.Holding.{target_holds}
use Rattle.combining.specs.Decisions.{is_permit, is_deny, is_not_applicable, combined, rule_decision, decision_of, decisions_of}
use Rattle.combining.specs.Deciding.{is_decision, is_first_applicable}
use Rattle.combining.specs.ThreeAlgorithms.{is_older, uses_older, all_use_older, older_combined, older_decision, older_decisions}

pub and_left : (a b : Bool) → (a && b) ≡ true → a ≡ true
and_left true b e = refl
and_left false b e = e

pub and_right : (a b : Bool) → (a && b) ≡ true → b ≡ true
and_right true b e = e
and_right false b e = absurd cc

combined-older : (a : Algorithm) (ds : List Decision) → is_older a ≡ true → combined a ds ≡ older_combined a ds
combined-older DenyOverrides ds older = refl
combined-older PermitOverrides ds older = refl
combined-older FirstApplicable ds older = refl
combined-older DenyUnlessPermit ds older = absurd cc
combined-older PermitUnlessDeny ds older = absurd cc

mutual
  pub decision_of-older : (q : Question) (met : List (List ℕ)) (node : NodeData) → uses_older node ≡ true → decision_of q met node ≡ older_decision q met node
  decision_of-older q met (set head children) older =
      ap (λ d. if target_holds q met head.target then d else NotApplicable)
      (combined-older head.combine (decisions_of q met children) (and_left (is_older head.combine) (all_use_older children) older)
      ∙ ap (older_combined head.combine) (decisions_of-older q met children (and_right (is_older head.combine) (all_use_older children) older)))
  decision_of-older q met (policy head rules) older =
      ap (λ d. if target_holds q met head.target then d else NotApplicable) (combined-older head.combine (map (rule_decision q met) rules) older)

  decisions_of-older : (q : Question) (met : List (List ℕ)) (children : Children) → all_use_older children ≡ true → decisions_of q met children ≡ older_decisions q met children
  decisions_of-older q met no_children older = refl
  decisions_of-older q met (child node rest) older =
      λ i. decision_of-older q met node (and_left (uses_older node) (all_use_older rest) older) i ∷ decisions_of-older q met rest (and_right (uses_older node) (all_use_older rest) older) i

pub is_decision-refl : (d : Decision) → is_decision d d ≡ true
is_decision-refl Permit = refl
is_decision-refl Deny = refl
is_decision-refl NotApplicable = refl

pub same_decision : (d e : Decision) → is_decision d e ≡ true → e ≡ d
same_decision Permit Permit same = refl
same_decision Permit Deny same = absurd cc
same_decision Permit NotApplicable same = absurd cc
same_decision Deny Permit same = absurd cc
same_decision Deny Deny same = refl
same_decision Deny NotApplicable same = absurd cc
same_decision NotApplicable Permit same = absurd cc
same_decision NotApplicable Deny same = absurd cc
same_decision NotApplicable NotApplicable same = refl

-- a Permit or a Deny chosen by a test
pub chosen : (b : Bool) (x d : Decision) → is_not_applicable d ≡ false → (if b then x else NotApplicable) ≡ d → x ≡ d
chosen true x d applicable e = e
chosen false x d applicable e = absurd (true≢false (ap is_not_applicable e ∙ applicable))

is_permit-is : (ds : List Decision) → list_any is_permit ds ≡ list_any (is_decision Permit) ds
is_permit-is [] = refl
is_permit-is (Permit ∷ ds) = refl
is_permit-is (Deny ∷ ds) = is_permit-is ds
is_permit-is (NotApplicable ∷ ds) = is_permit-is ds

is_deny-is : (ds : List Decision) → list_any is_deny ds ≡ list_any (is_decision Deny) ds
is_deny-is [] = refl
is_deny-is (Permit ∷ ds) = is_deny-is ds
is_deny-is (Deny ∷ ds) = refl
is_deny-is (NotApplicable ∷ ds) = is_deny-is ds

-- a Permit or a Deny of an overriding algorithm is one of its children's decisions
overriding : (a b : Decision) (x y z : Bool) (d : Decision) → is_not_applicable d ≡ false → (if x then a else if y then b else NotApplicable) ≡ d →
    (a ≡ d → x ≡ z) → (b ≡ d → y ≡ z) → z ≡ true
overriding a b true y z d applicable is first second = sym (first is)
overriding a b false true z d applicable is first second = sym (second is)
overriding a b false false z d applicable is first second = absurd (true≢false (ap is_not_applicable is ∙ applicable))

by_permit : (ds : List Decision) (d : Decision) → Permit ≡ d → list_any is_permit ds ≡ list_any (is_decision d) ds
by_permit ds d is = is_permit-is ds ∙ ap (λ e. list_any (is_decision e) ds) is

by_deny : (ds : List Decision) (d : Decision) → Deny ≡ d → list_any is_deny ds ≡ list_any (is_decision d) ds
by_deny ds d is = is_deny-is ds ∙ ap (λ e. list_any (is_decision e) ds) is

-- a Permit or a Deny of deny-overrides or permit-overrides is the decision of a child
pub combined-among : (a : Algorithm) (ds : List Decision) (d : Decision) → is_older a ≡ true → is_first_applicable a ≡ false → is_not_applicable d ≡ false →
    combined a ds ≡ d → list_any (is_decision d) ds ≡ true
combined-among DenyOverrides ds d older not_first applicable is = overriding Deny Permit _ _ _ d applicable is (by_deny ds d) (by_permit ds d)
combined-among PermitOverrides ds d older not_first applicable is = overriding Permit Deny _ _ _ d applicable is (by_permit ds d) (by_deny ds d)
combined-among FirstApplicable ds d older not_first applicable is = absurd cc
combined-among DenyUnlessPermit ds d older not_first applicable is = absurd cc
combined-among PermitUnlessDeny ds d older not_first applicable is = absurd cc
