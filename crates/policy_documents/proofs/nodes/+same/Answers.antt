use Rattle.std.proofs.Common.{sym, ◌∙◌, arith}
use Rattle.policy_documents.specs.Equality.{same_node}
use Rattle.policy_documents.specs.Views.{node_view}
use Rattle.policy_documents.proofs.RowLemmas.{same_from-more, same_from-other, same_from-end, same_from-long, same_children-row}
use Rattle.policy_documents.proofs.nodes.+same.Goals as goal

pub same_nodes-returns-then-nodes-others : goal.same_nodes-returns-then-nodes-others
same_nodes-returns-then-nodes-others g t c =
    same_from-long (λ x y. same_node (node_view x) (node_view y)) _ _ c.if-nodes-others.true ∙ same_children-row node_view node_view c.args.nodes.now c.args.others.now

pub same_nodes-returns-then-not-same_node : goal.same_nodes-returns-then-not-same_node
same_nodes-returns-then-not-same_node g t c =
    same_from-other (λ x y. same_node (node_view x) (node_view y)) _ _ _ _ _ c.loop-index-test.true (omega arith) c.index-nodes-index.is c.index-others-index.is (sym c.same_node.ensures ∙ c.if-not-same_node.true)
    ∙ c.loop-index.invariant ∙ same_children-row node_view node_view c.args.nodes.now c.args.others.now

pub same_nodes-loop-index-preserved : goal.same_nodes-loop-index-preserved
same_nodes-loop-index-preserved g t c =
    same_from-more (λ x y. same_node (node_view x) (node_view y)) _ _ _ _ _ c.loop-index-test.true (omega arith) c.index-nodes-index.is c.index-others-index.is (sym c.same_node.ensures ∙ c.if-not-same_node.false) ∙ c.loop-index.invariant

pub same_nodes-returns : goal.same_nodes-returns
same_nodes-returns g t c =
    same_from-end (λ x y. same_node (node_view x) (node_view y)) _ _ _ c.loop-index-test.false (omega arith) ∙ c.loop-index.invariant ∙ same_children-row node_view node_view c.args.nodes.now c.args.others.now
