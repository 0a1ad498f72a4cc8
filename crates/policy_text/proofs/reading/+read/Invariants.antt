use Rattle.std.proofs.Common.{◌≡◌, ◌+◌, ◌*◌, map}
use Rattle.serde_json.specs.View.{items_view}
use Rattle.policy_documents.specs.Views.{zone_of, node_view}
use Rattle.policy_text.specs.SeenViews.{seen_view}
use Rattle.policy_text.specs.Reading.{each_at, node_at}
use Rattle.policy_text.proofs.EachLemmas.{behind, left_at}
use Rattle.policy_text.proofs.reading.+read.Given as goal

abbrev pub invariant-nodes_at-loop-index : goal.invariant-nodes_at-loop-index
invariant-nodes_at-loop-index g l =
    behind (map node_view l.nodes.items) (left_at (node_at (map zone_of l.zones.entries) l.levels) l.path l.index (seen_view l.seen) l.items)
    ≡ each_at (node_at (map zone_of l.zones.entries) l.levels) l.path 0 (seen_view l.fn.seen) (items_view l.items)

abbrev pub decreases-node_at : goal.decreases-node_at
decreases-node_at g l = 4 * l.levels

abbrev pub decreases-set_at : goal.decreases-set_at
decreases-set_at g l = 4 * l.below + 2

abbrev pub decreases-nodes_at : goal.decreases-nodes_at
decreases-nodes_at g l = 4 * l.levels + 1
