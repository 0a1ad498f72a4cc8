use Rattle.std.proofs.Common.{◌≡◌, map, drop}
use Rattle.policy_documents.specs.Documents.{children_of, rules_of_all, found_rule}
use Rattle.policy_documents.specs.Views.{node_view}
use Rattle.policy_documents.proofs.documents.+rule_in.Given as goal

abbrev pub invariant-rule_in_nodes-loop-node : goal.invariant-rule_in_nodes-loop-node
invariant-rule_in_nodes-loop-node g l =
    found_rule l.left (rules_of_all (children_of (map node_view (drop l.node-index l.nodes)))) ≡ found_rule l.index (rules_of_all (children_of (map node_view l.nodes)))
