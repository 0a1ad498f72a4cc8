-- Printed sets and policies are read as themselves.
use Rattle.std.proofs.Common.{◌≡◌, ℕ, zero, suc, ◌+◌, List, [], ◌∷◌, map, flat_map, Ok, refl, sym, ap, ◌∙◌, arith, append_assoc, append-nil, length-append}
use Rattle.std.specs.List.{list_all}
use Rattle.std.proofs.lemmas.Bool.{and_parts}
use Rattle.serde_json.specs.View.{items_of}
use Rattle.features.specs.Names as spelling
use Rattle.policy_documents.specs.Documents.{RuleData, Head, NodeData, set, policy, Children, no_children, child, children_of, rules_of, rules_of_all, target_matches, rule_matches, is_target, are_distinct}
use Rattle.policy_text.specs.Reading.{at_key, at_item, each_at, rule_at, node_at, Seen}
use Rattle.policy_text.proofs.SeenAfter.{after_rules, after_node, after_nodes}
use Rattle.policy_text.specs.Printed.{algorithm_text, target_items, rule_data, node_data, nodes_items}
use Rattle.policy_text.specs.declared.paths.MemberName.TheVariants as member_names
use Rattle.policy_text.specs.declared.paths.PathPart.{PathPart}
use Rattle.policy_documents.specs.declared.zones.Zone.{Zone}
use Rattle.policy_text.proofs.NodeReadLemmas.{node_at-set, node_at-policy, policy_at-read, set_at-read}
use Rattle.policy_text.proofs.PrintedSteps.{distinct_behind, seen_same}
use Rattle.policy_text.proofs.PrintedLists.{each_more, each_none}
use Rattle.policy_text.proofs.PrintedMatches.{is_readable}
use Rattle.policy_text.proofs.PrintedRules.{rules_read}
use Rattle.policy_text.proofs.PrintedHeads.{IsHeadHere, after_head, set_head_read, policy_head_read, policy_kind}
use Rattle.policy_text.proofs.PrintedPremises.{IsNodeHere, AreNodesHere, both_pass, set_head, set_below, first_here, rest_here}

-- ---- the children of a set as a list

abbrev nodes_of : Children → List NodeData
nodes_of no_children = []
nodes_of (child node rest) = node ∷ nodes_of rest

children_of-nodes_of : (nodes : Children) → children_of (nodes_of nodes) ≡ nodes
children_of-nodes_of no_children = refl
children_of-nodes_of (child node rest) = ap (child node) (children_of-nodes_of rest)

-- ---- what was seen after the parts of a node, together

module _ (seen : Seen) where
  after_set : (head : Head) (nodes : Children) → after_nodes (after_head seen head) nodes ≡ after_node seen (set head nodes)
  after_set head nodes = seen_same (append_assoc seen.names (head.name ∷ []) _) (omega arith) refl (omega arith)

  after_policy : (head : Head) (rules : List RuleData) → after_rules (after_head seen head) rules ≡ after_node seen (policy head rules)
  after_policy head rules = seen_same (append_assoc seen.names (head.name ∷ []) _) refl refl (omega arith)

  after_none : seen ≡ after_nodes seen no_children
  after_none = seen_same (sym (append-nil seen.names)) (omega arith) (omega arith) (omega arith)

  after_more : (node : NodeData) (rest : Children) → after_nodes (after_node seen node) rest ≡ after_nodes seen (child node rest)
  after_more node rest = seen_same (append_assoc seen.names _ _) (omega arith) (omega (arith, length-append (rules_of node) (rules_of_all rest))) (omega arith)

-- ---- policies

module _ (zones : List Zone) where
  policy_read : (levels : ℕ) (path : List PathPart) (seen : Seen) (head : Head) (rules : List RuleData) → IsNodeHere zones (suc levels) seen (policy head rules) →
      node_at zones (suc levels) path seen (node_data (policy head rules)) ≡ Ok (policy head rules, after_node seen (policy head rules))
  policy_read levels path seen head rules h =
      let names = map (λ (r : RuleData). r.name) rules in
      let name_parts = and_parts (spelling.is_name head.name) (list_all spelling.is_name names) h.spelled in
      let target_parts = and_parts (is_target head.target) (list_all is_target (map (λ (r : RuleData). r.target) rules)) h.targets in
      let match_parts = both_pass (is_readable zones) (target_matches head.target) (flat_map rule_matches rules) h.matches in
      let here : IsHeadHere zones seen head = record {
        spelled = name_parts.0;
        target = target_parts.0;
        matches = match_parts.0;
        fresh = distinct_behind seen.names head.name names h.distinct;
        nodes = omega arith;
        tests = omega arith;
      } in
      let next = after_head seen head in
      let items = items_of (map rule_data rules) in
      let place = at_key path member_names.Rules in
      let behind : each_at (rule_at zones) place 0 next items ≡ Ok (rules, after_rules next rules) =
      rules_read zones place 0 next rules name_parts.1 target_parts.1 match_parts.1 (ap are_distinct (append_assoc seen.names (head.name ∷ []) names) ∙ h.distinct) h.rules (omega arith) in
      sym (node_at-policy zones path seen (node_data (policy head rules)) (suc levels) levels refl (policy_kind (algorithm_text head.combine) head.name items (target_items head.target)))
      ∙ policy_at-read zones path seen (node_data (policy head rules)) head next (after_rules next rules) items place rules (policy_head_read zones path seen head items here) refl behind
      ∙ ap (λ s. Ok (policy head rules, s)) (after_policy seen head rules)

  -- ---- sets, and nodes one by one

  mutual
    pub node_read : (node : NodeData) (levels : ℕ) (path : List PathPart) (seen : Seen) → IsNodeHere zones levels seen node → node_at zones levels path seen (node_data node) ≡ Ok (node, after_node seen node)
    node_read (set head nodes) zero path seen h = absurd (omega (arith, h.depth))
    node_read (policy head rules) zero path seen h = absurd (omega (arith, h.depth))
    node_read (policy head rules) (suc levels) path seen h = policy_read levels path seen head rules h
    node_read (set head nodes) (suc levels) path seen h =
        let next = after_head seen head in
        let place = at_key path member_names.Of in
        sym (node_at-set zones path seen (node_data (set head nodes)) (suc levels) levels refl refl)
        ∙ set_at-read zones path seen (node_data (set head nodes)) head next (after_nodes next nodes) (nodes_items nodes) (node_at zones levels) place (nodes_of nodes)
        (set_head_read zones path seen head (nodes_items nodes) (set_head zones levels seen head nodes h)) refl
        (children_read nodes levels place 0 next (set_below zones levels seen head nodes h))
        ∙ rw (children_of-nodes_of nodes, after_set seen head nodes) refl

    children_read : (nodes : Children) (levels : ℕ) (path : List PathPart) (index : ℕ) (seen : Seen) → AreNodesHere zones levels seen nodes →
        each_at (node_at zones levels) path index seen (nodes_items nodes) ≡ Ok (nodes_of nodes, after_nodes seen nodes)
    children_read no_children levels path index seen h = each_none (node_at zones levels) path index seen ∙ ap (λ s. Ok ([], s)) (after_none seen)
    children_read (child node rest) levels path index seen h =
        each_more (node_at zones levels) path index seen (after_node seen node) (after_nodes (after_node seen node) rest) (node_data node) (nodes_items rest) node (nodes_of rest)
        (node_read node levels (at_item path index) seen (first_here zones levels seen node rest h))
        (children_read rest levels path (index + 1) (after_node seen node) (rest_here zones levels seen node rest h))
        ∙ ap (λ s. Ok (node ∷ nodes_of rest, s)) (after_more seen node rest)
