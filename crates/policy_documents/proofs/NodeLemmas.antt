-- The plain data of each kind of node.
use Rattle.std.proofs.Common.{◌≡◌, ℕ, ◌+◌, ◌<◌, List, [], ◌∷◌, ◌++◌, length, get_or, take, map, sym, ap, ◌∙◌}
use Rattle.std.proofs.lemmas.List.{map-append, map_more}
use Rattle.policy_documents.specs.Documents.{NodeData, set, policy, children_of}
use Rattle.policy_documents.specs.Views.{node_view, node_step}
use Rattle.policy_documents.specs.declared.nodes.Node.{Set, Policy, Node-F, fold-roll-Node}
use Rattle.policy_documents.specs.declared.nodes.Node.TheVariants.{rolls-Set, rolls-Policy}

pub node_view-Policy : (A : Type 0) → (name : _) (combine : _) (target : _) (rules : _) →
    node_view {A = A} (Policy name combine target rules) ≡ policy (record { name = name; combine = combine; target = target }) rules.items
node_view-Policy A name combine target rules =
    ap (node_view {A = A}) (sym (rolls-Policy name combine target rules)) ∙ fold-roll-Node A NodeData node_step (Node-F.Policy name combine target rules)

pub node_view-Set : (A : Type 0) → (name : _) (combine : _) (target : _) (of : _) →
    node_view {A = A} (Set name combine target of) ≡ set (record { name = name; combine = combine; target = target }) (children_of (map node_view of.items))
node_view-Set A name combine target of =
    ap (node_view {A = A}) (sym (rolls-Set name combine target of)) ∙ fold-roll-Node A NodeData node_step (Node-F.Set name combine target of)

-- two lists that are equal under f and g stay so with one more element
pub mapped_more : {X Y Z : Type 0} (f : X → Z) (g : Y → Z) (xs zs : List X) (ys : List Y) (i : ℕ) (x : X) (y : Y) →
    zs ≡ xs ++ x ∷ [] → i < length ys → map f xs ≡ map g (take i ys) → f x ≡ g (get_or ys i y) → map f zs ≡ map g (take (i + 1) ys)
mapped_more f g xs zs ys i x y all in_range before last =
    ap (map f) all ∙ map-append f xs (x ∷ []) ∙ rw (before, last) (sym (map_more g ys i y in_range))
