use Rattle.std.proofs.Common.{◌≡◌, map, take}
use Rattle.serde_json.specs.View.{view}
use Rattle.policy_text.specs.Printed.{node_data}
use Rattle.policy_documents.specs.Views.{node_view}
use Rattle.policy_text.proofs.printing.+print.Given as goal

abbrev pub invariant-node_values-loop-node : goal.invariant-node_values-loop-node
invariant-node_values-loop-node g l = map view l.values.items ≡ map (λ n. node_data (node_view n)) (take l.node-index l.node-items)
