use Rattle.std.proofs.Common.{◌≡◌, ◌++◌, take}
use Rattle.std.specs.List.{flat_map}
use Rattle.policy_documents.specs.Views.{node_view}
use Rattle.configuration.specs.Summaries.{node_permits}
use Rattle.configuration.proofs.summaries.+permits.Given as goal

abbrev pub invariant-put_permits_below-loop-node : goal.invariant-put_permits_below-loop-node
invariant-put_permits_below-loop-node g l = l.flags.items ≡ l.fn.flags.items ++ flat_map (λ n. node_permits (node_view n)) (take l.node-index l.nodes.items)
