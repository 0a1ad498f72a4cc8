-- The rules below a node.
use Rattle.std.proofs.Common.{◌≡◌, ℕ, suc, ◌+◌, List, [], ◌∷◌, ◌++◌, length, map, refl, sym, ap, ◌∙◌, length-append}
use Rattle.std.proofs.lemmas.List.{length-map}
use Rattle.policy_documents.specs.Documents.{NodeData, RuleData, set, policy, Children, no_children, child, children_of, rules_of, rules_of_all}
use Rattle.policy_documents.specs.declared.algorithms.Algorithm.{Algorithm}
use Rattle.combining.specs.declared.questions.Question.{Question}
use Rattle.combining.specs.declared.decisions.Decision.{Decision}
use Rattle.combining.specs.Decisions.{decision_of}
use Rattle.combining.specs.Deciding.{Placed, placed_within, placed_rules, parts_of, rule_part}
use Rattle.combining.specs.Gathering.{node_part}

pub parts_of-map : (q : Question) (met : List (List ℕ)) {X : Type 0} (view : X → NodeData) (xs : List X) →
    parts_of q met (children_of (map view xs)) ≡ map (λ x. node_part q met (view x)) xs
parts_of-map q met view [] = refl
parts_of-map q met view (x ∷ xs) = ap (λ ps. node_part q met (view x) ∷ ps) (parts_of-map q met view xs)

-- each rule of a policy is placed once
pub length-placed_within : (q : Question) (met : List (List ℕ)) (a : Algorithm) (d : Decision) (rules : List RuleData) (earlier : List Decision) →
    length (placed_within q met a d earlier (map (rule_part q met) rules)) ≡ length rules
length-placed_within q met a d [] earlier = refl
length-placed_within q met a d (rule ∷ rules) earlier = ap suc (length-placed_within q met a d rules _)

abbrev pub sizes_of : List (Decision × List Placed) → ℕ
sizes_of [] = 0
sizes_of (part ∷ parts) = length part.1 + sizes_of parts

pub length-placed_parts : (q : Question) (met : List (List ℕ)) (a : Algorithm) (d : Decision) (parts : List (Decision × List Placed)) (earlier : List Decision) →
    length (placed_within q met a d earlier parts) ≡ sizes_of parts
length-placed_parts q met a d [] earlier = refl
length-placed_parts q met a d (part ∷ parts) earlier =
    simp (length-append, length-map) (ap (λ n. length part.1 + n) (length-placed_parts q met a d parts (earlier ++ part.0 ∷ [])))

mutual
  pub length-placed_rules : (q : Question) (met : List (List ℕ)) (node : NodeData) → length (placed_rules q met node) ≡ length (rules_of node)
  length-placed_rules q met (set head children) =
      length-placed_parts q met head.combine (decision_of q met (set head children)) (parts_of q met children) [] ∙ sizes_of-parts_of q met children
  length-placed_rules q met (policy head rules) = length-placed_within q met head.combine (decision_of q met (policy head rules)) rules []

  pub sizes_of-parts_of : (q : Question) (met : List (List ℕ)) (children : Children) → sizes_of (parts_of q met children) ≡ length (rules_of_all children)
  sizes_of-parts_of q met no_children = refl
  sizes_of-parts_of q met (child node rest) =
      (λ i. length-placed_rules q met node i + sizes_of-parts_of q met rest i) ∙ sym (length-append (rules_of node) (rules_of_all rest))
