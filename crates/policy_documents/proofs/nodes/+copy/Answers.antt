use Rattle.std.proofs.Common.{ap, ◌∙◌}
use Rattle.policy_documents.specs.Views.{node_view}
use Rattle.policy_documents.proofs.NodeLemmas.{node_view-Set, node_view-Policy, mapped_more}
use Rattle.policy_documents.proofs.nodes.+copy.Goals as goal

pub copy_node-returns-in_ok-copy_nodes-in-Set : goal.copy_node-returns-in_ok-copy_nodes-in-Set
copy_node-returns-in_ok-copy_nodes-in-Set g t c =
    rw (node_view-Set, c.in-Set.is, node_view-Set, c.in_ok-copy_nodes-in-Set.ensures, c.in_ok-copy_target-in-Set.ensures)

pub copy_node-returns-in_ok-copy_rules-in-Policy :
    goal.copy_node-returns-in_ok-copy_rules-in-Policy
copy_node-returns-in_ok-copy_rules-in-Policy g t c =
    rw (node_view-Policy, c.in-Policy.is, node_view-Policy, c.in_ok-copy_rules-in-Policy.ensures, c.in_ok-copy_target-in-Policy.ensures)

pub copy_nodes-loop-node-preserved : goal.copy_nodes-loop-node-preserved
copy_nodes-loop-node-preserved g t c =
    mapped_more node_view node_view _ _ _ _ _ _ c.in_ok-try_push.ensures.items c.loop-node-test.true c.loop-node.invariant (c.in_ok-copy_node.ensures ∙ ap node_view c.node-item.is)
