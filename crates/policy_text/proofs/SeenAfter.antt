-- What was seen after a part of a document, given what was seen before it.
use Rattle.std.specs.Prelude.{◌+◌, List, ◌++◌, length, map}
use Rattle.policy_documents.specs.Documents.{RuleData, NodeData, Children, names_of, names_of_all, rules_of, rules_of_all, node_count, node_count_of_all, test_count, test_count_of_all, rule_sizes}
use Rattle.policy_text.specs.Reading.{Seen}

abbrev pub after_rules : Seen → List RuleData → Seen
after_rules seen rules = record {
  names = seen.names ++ map (λ rule. rule.name) rules;
  nodes = seen.nodes;
  rules = seen.rules + length rules;
  tests = seen.tests + rule_sizes rules;
}

abbrev pub after_node : Seen → NodeData → Seen
after_node seen node = record {
  names = seen.names ++ names_of node;
  nodes = seen.nodes + node_count node;
  rules = seen.rules + length (rules_of node);
  tests = seen.tests + test_count node;
}

abbrev pub after_nodes : Seen → Children → Seen
after_nodes seen nodes = record {
  names = seen.names ++ names_of_all nodes;
  nodes = seen.nodes + node_count_of_all nodes;
  rules = seen.rules + length (rules_of_all nodes);
  tests = seen.tests + test_count_of_all nodes;
}
