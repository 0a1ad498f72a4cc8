-- The contents of rules, policies and sets.
use Rattle.std.proofs.Common.{◌≡◌, suc, ◌+◌, List, [], ◌∷◌, length, map, flat_map, refl, ap, sym, ◌∙◌, arith, length-append}
use Rattle.policy_documents.specs.Documents.{RuleData, Head, NodeData, Children, children_of, target_matches, rule_matches, rule_sizes, atom_sizes, names_of, names_of_all, rules_of, rules_of_all, node_count, node_count_of_all, test_count, test_count_of_all, depth_of, depth_of_all, matches_of, matches_of_all, targets_of, targets_of_all}
use Rattle.policy_text.proofs.PartLaws.{Contents, beside, all_contents}

abbrev pub rule_contents : RuleData → Contents
rule_contents rule = record {
  names = rule.name ∷ [];
  nodes = 0;
  rules = 1;
  tests = length (target_matches rule.target) + atom_sizes rule.when;
  depth = 0;
  found = rule_matches rule;
  targets = rule.target ∷ [];
}

abbrev pub head_contents : Head → Contents
head_contents head = record {
  names = head.name ∷ [];
  nodes = 1;
  rules = 0;
  tests = length (target_matches head.target);
  depth = 0;
  found = target_matches head.target;
  targets = head.target ∷ [];
}

abbrev pub node_contents : NodeData → Contents
node_contents node = record {
  names = names_of node;
  nodes = node_count node;
  rules = length (rules_of node);
  tests = test_count node;
  depth = depth_of node;
  found = matches_of node;
  targets = targets_of node;
}

abbrev pub rules_contents : List RuleData → Contents
rules_contents rules = record {
  names = map (λ rule. rule.name) rules;
  nodes = 0;
  rules = length rules;
  tests = rule_sizes rules;
  depth = 0;
  found = flat_map rule_matches rules;
  targets = map (λ rule. rule.target) rules;
}

abbrev pub children_contents : Children → Contents
children_contents nodes = record {
  names = names_of_all nodes;
  nodes = node_count_of_all nodes;
  rules = length (rules_of_all nodes);
  tests = test_count_of_all nodes;
  depth = depth_of_all nodes;
  found = matches_of_all nodes;
  targets = targets_of_all nodes;
}

pub all_contents-rules : (rules : List RuleData) → all_contents rule_contents rules ≡ rules_contents rules
all_contents-rules [] = refl
all_contents-rules (rule ∷ rules) =
    let one : 1 + length rules ≡ suc (length rules) = omega arith in
    ap (beside (rule_contents rule)) (all_contents-rules rules) ∙ ap (λ n. record (rules_contents (rule ∷ rules)) { rules = n }) one

pub all_contents-nodes : (nodes : List NodeData) → all_contents node_contents nodes ≡ children_contents (children_of nodes)
all_contents-nodes [] = refl
all_contents-nodes (node ∷ nodes) =
    ap (beside (node_contents node)) (all_contents-nodes nodes)
    ∙ ap (λ n. record (children_contents (children_of (node ∷ nodes))) { rules = n }) (sym (length-append (rules_of node) (rules_of_all (children_of nodes))))
