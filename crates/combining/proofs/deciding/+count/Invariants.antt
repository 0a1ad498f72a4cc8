use Rattle.std.proofs.Common.{◌≡◌, take}
use Rattle.policy_documents.specs.Views.{node_view}
use Rattle.combining.proofs.GatherLemmas.{total}
use Rattle.combining.proofs.deciding.+count.Given as goal

abbrev pub invariant-rule_count_of_all-loop-node : goal.invariant-rule_count_of_all-loop-node
invariant-rule_count_of_all-loop-node g l = l.count ≡ total node_view (take l.node-index l.nodes)
