-- Which rules below a node permit, by the node's children.
use Rattle.std.proofs.Common.{◌≡◌, ◌∙◌, Bool, List, [], ◌∷◌, ◌++◌, ap, map, refl}
use Rattle.std.specs.List.{flat_map}
use Rattle.std.proofs.lemmas.List.{map-append}
use Rattle.policy_documents.specs.Documents.{NodeData, children_of, rules_of, rules_of_all}
use Rattle.policy_documents.specs.Views.{node_view}
use Rattle.policy_documents.specs.declared.nodes.Node.{Node, Policy, Set}
use Rattle.policy_documents.proofs.NodeLemmas.{node_view-Policy, node_view-Set}
use Rattle.configuration.specs.Summaries.{is_permit, node_permits}

below : (nodes : List NodeData) → map is_permit (rules_of_all (children_of nodes)) ≡ flat_map node_permits nodes
below [] = refl
below (n ∷ ns) = map-append is_permit (rules_of n) (rules_of_all (children_of ns)) ∙ ap (λ (flags : List Bool). node_permits n ++ flags) (below ns)

seen : {A : Type 0} (nodes : List (Node A)) → flat_map node_permits (map node_view nodes) ≡ flat_map (λ n. node_permits (node_view n)) nodes
seen [] = refl
seen (n ∷ ns) = ap (λ (flags : List Bool). node_permits (node_view n) ++ flags) (seen ns)

pub set_permits : (A : Type 0) → (name : _) (combine : _) (target : _) (of : _) → node_permits (node_view {A = A} (Set name combine target of)) ≡ flat_map (λ n. node_permits (node_view n)) of.items
set_permits A name combine target of = ap node_permits (node_view-Set A name combine target of) ∙ (below (map node_view of.items) ∙ seen of.items)

pub policy_permits : (A : Type 0) → (name : _) (combine : _) (target : _) (rules : _) → node_permits (node_view {A = A} (Policy name combine target rules)) ≡ map is_permit rules.items
policy_permits A name combine target rules = ap node_permits (node_view-Policy A name combine target rules)
