use Rattle.std.proofs.Common.{rules, ◌+◌, ◌≤◌, length, take, arith, ◌∙◌, sym}
use Rattle.policy_documents.specs.Documents.{rules_of}
use Rattle.policy_documents.specs.Views.{node_view}
use Rattle.combining.proofs.GatherLemmas.{total, total-more, total-some}
use denote.Param.Weighed.{at_most}
use Rattle.combining.proofs.deciding.+count.Goals as goal

pub rule_count_of_all-rule_count-count-requires : goal.rule_count_of_all-rule_count-count-requires
rule_count_of_all-rule_count-count-requires g t c κs within =
    (search (rules, at_most), (search rules, omega (arith, c.requires, total-some node_view c.args.nodes.now c.loop-node.node-index c.node-item.result c.loop-node-test.true c.node-item.is)))

pub rule_count_of_all-overflow_add-count : goal.rule_count_of_all-overflow_add-count
rule_count_of_all-overflow_add-count g t c =
    let some : total node_view (take c.loop-node.node-index c.args.nodes.now) + length (rules_of (node_view c.node-item.result)) ≤ total node_view c.args.nodes.now =
    total-some node_view c.args.nodes.now c.loop-node.node-index c.node-item.result c.loop-node-test.true c.node-item.is in
    omega (arith, c.requires, c.loop-node.invariant, c.rule_count-count.ensures)

pub rule_count_of_all-loop-node-preserved : goal.rule_count_of_all-loop-node-preserved
rule_count_of_all-loop-node-preserved g t c =
    (λ i. c.loop-node.invariant i + c.rule_count-count.ensures i) ∙ sym (total-more node_view c.args.nodes.now c.loop-node.node-index c.node-item.result c.loop-node-test.true c.node-item.is)
