use Rattle.std.proofs.Common.{◌≡◌, ◌+◌, map, take}
use Rattle.policy_documents.specs.Views.{node_view}
use Rattle.combining.specs.Gathering.{gathered_of, node_part}
use Rattle.combining.proofs.GatherLemmas.{total}
use Rattle.combining.proofs.deciding.+decide.Given as goal

abbrev pub invariant-gather_nodes-loop-node : goal.invariant-gather_nodes-loop-node
invariant-gather_nodes-loop-node g l = record {
  gathered : l.gathered ≡ gathered_of l.question l.met l.combine l.fn.next (map (λ node. node_part l.question l.met (node_view node)) (take l.node-index l.nodes));
  next : l.next ≡ l.fn.next + total node_view (take l.node-index l.nodes);
}
