use Rattle.std.proofs.Common.{◌≡◌, map, take}
use Rattle.policy_documents.specs.Views.{node_view}
use Rattle.policy_documents.proofs.nodes.+copy.Given as goal

abbrev pub invariant-copy_nodes-loop-node : goal.invariant-copy_nodes-loop-node
invariant-copy_nodes-loop-node g l = map node_view l.copies.items ≡ map node_view (take l.node-index l.node-items)
