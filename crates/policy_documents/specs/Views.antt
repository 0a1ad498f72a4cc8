-- The plain data of a node.
use Rattle.std.specs.Prelude.{List, map}
use Rattle.policy_documents.specs.Documents.{DocumentData, NodeData, set, policy, children_of}
use Rattle.policy_documents.specs.declared.zones.Zone.{Zone}
use Rattle.policy_documents.specs.declared.zones.ZoneName.{ZoneName}
use Rattle.plane.specs.declared.point.Point.{Point}
use Rattle.policy_documents.specs.declared.nodes.Node.{Node, fold-Node}
use Rattle.policy_documents.specs.declared.nodes.Node.TheOpen.{Node-F}

abbrev pub node_step : {A : Type 0} → Node-F A NodeData → NodeData
node_step (Node-F.Set name combine target of) =
    set (record { name = name; combine = combine; target = target }) (children_of of.items)
node_step (Node-F.Policy name combine target rules) =
    policy (record { name = name; combine = combine; target = target }) rules.items

abbrev pub node_view : {A : Type 0} → Node A → NodeData
node_view {A = A} = fold-Node A NodeData node_step

abbrev pub zone_of : ZoneName × List Point → Zone
zone_of e = record { name = e.0.name; shape = e.1 }

abbrev pub document_view : {A : Type 0} → List (ZoneName × List Point) → Node A → DocumentData
document_view zones root = record { zones = map zone_of zones; root = node_view root }
