use Rattle.std.proofs.Common.{sym, ap, ◌∙◌}
use Rattle.policy_documents.specs.Documents.{rules_of, found_rule}
use Rattle.policy_documents.specs.Views.{node_view}
use Rattle.policy_documents.proofs.RuleLemmas.{found_here, found_behind}
use Rattle.policy_documents.proofs.documents.+rule_in.Goals as goal

pub rule_in_nodes-returns-in-Ok : goal.rule_in_nodes-returns-in-Ok
rule_in_nodes-returns-in-Ok g t c = sym (found_here node_view _ _ _ _ _ c.loop-node-test.true (ap (λ n. found_rule c.loop-node.left (rules_of (node_view n))) (sym c.node-item.is) ∙ sym c.in-Ok.ensures)) ∙ c.loop-node.invariant

pub rule_in_nodes-loop-node-preserved : goal.rule_in_nodes-loop-node-preserved
rule_in_nodes-loop-node-preserved g t c = sym (found_behind node_view _ _ _ _ _ c.loop-node-test.true (ap (λ n. found_rule c.loop-node.left (rules_of (node_view n))) (sym c.node-item.is) ∙ sym c.in-Err.ensures)) ∙ c.loop-node.invariant
