use Rattle.std.proofs.Common.{◌≡◌}
use Rattle.std.specs.Cmp.Lexicographic.{pointwise}
use Rattle.policy_documents.specs.Equality.{same_node}
use Rattle.policy_documents.specs.Views.{node_view}
use Rattle.policy_documents.proofs.RowLemmas.{same_from}
use Rattle.policy_documents.proofs.nodes.+same.Given as goal

abbrev pub invariant-same_nodes-loop-index : goal.invariant-same_nodes-loop-index
invariant-same_nodes-loop-index g l =
    same_from (λ x y. same_node (node_view x) (node_view y)) l.index l.nodes l.others ≡ pointwise (λ x y. same_node (node_view x) (node_view y)) l.nodes l.others
