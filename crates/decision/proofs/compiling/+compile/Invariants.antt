use Rattle.std.proofs.Common.{◌≡◌, ◌+◌, map, take}
use Rattle.policy_documents.specs.Views.{node_view}
use Rattle.combining.specs.Gathering.{node_part}
use Rattle.combining.proofs.GatherLemmas.{total}
use Rattle.decision.specs.Compiled.{Appends, AllStandFor}
use Rattle.decision.proofs.compiling.+compile.Given as goal

abbrev pub invariant-compile_nodes-loop-node : goal.invariant-compile_nodes-loop-node
invariant-compile_nodes-loop-node g l = record {
  appended : Appends _ l.known (λ q met. AllStandFor q met l.fn.next (map (λ node. node_part q met (node_view node)) (take l.node-index l.nodes))) l.fn.steps.items l.steps.items;
  next : l.next ≡ l.fn.next + total node_view (take l.node-index l.nodes);
}
