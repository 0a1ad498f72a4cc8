-- Objects as their members are put, one by one.
use Rattle.std.proofs.Common.{◌≡◌, ℕ, false, nat_eq, List, [], ◌∷◌, length, map, refl, sym, ap, ◌∙◌, true≢false}
use Rattle.serde_json.specs.Data.{Data, string, array, object, Items, no_items, item, Members, no_members, put}
use Rattle.serde_json.specs.View.{items_view, items_of}
use Rattle.serde_json.specs.declared.value.Value.{Value}
use Rattle.policy_documents.specs.Documents.{RuleData, Head, NodeData, set, policy, children_of}
use Rattle.policy_text.specs.Keys.{key_text}
use Rattle.policy_text.specs.Printed.{keyed, keyed_items, target_items, algorithm_text, rule_data, node_data, nodes_items}
use Rattle.policy_text.specs.PrintedMembers.{put_items, put_node}
use Rattle.policy_text.specs.declared.paths.MemberName.{MemberName}
use Rattle.policy_text.specs.declared.paths.MemberName.TheVariants as member_names

-- an array that is not empty is put
pub put_items-filled : (key : MemberName) (vs : List Value) (n : ℕ) (old : Members) → length vs ≡ n → false ≡ nat_eq n 0 →
    put (key_text key) (array (items_view vs)) old ≡ put_items key (items_view vs) old
put_items-filled key [] n old e h = absurd (true≢false (sym (h ∙ ap (λ m. nat_eq m 0) (sym e))))
put_items-filled key (v ∷ vs) n old e h = refl

-- the target of a set comes after its algorithm, its children and its name
set-put_at : (combine name : Data) (children target : Items) →
    put_items member_names.Target target (put (key_text member_names.Of) (array children) (put (key_text member_names.Set) name (put (key_text member_names.Combine) combine no_members)))
    ≡ keyed member_names.Combine combine (keyed member_names.Of (array children) (keyed member_names.Set name (keyed_items member_names.Target target no_members)))
set-put_at combine name children no_items = refl
set-put_at combine name children (item d ds) = refl

-- the target of a policy comes after its algorithm, its name and its rules
policy-put_at : (combine name : Data) (children target : Items) →
    put_items member_names.Target target (put (key_text member_names.Rules) (array children) (put (key_text member_names.Policy) name (put (key_text member_names.Combine) combine no_members)))
    ≡ keyed member_names.Combine combine (keyed member_names.Policy name (keyed member_names.Rules (array children) (keyed_items member_names.Target target no_members)))
policy-put_at combine name children no_items = refl
policy-put_at combine name children (item d ds) = refl

nodes_items-map : {X : Type 0} (see : X → NodeData) (xs : List X) → items_of (map (λ x. node_data (see x)) xs) ≡ nodes_items (children_of (map see xs))
nodes_items-map see [] = refl
nodes_items-map see (x ∷ xs) = ap (item (node_data (see x))) (nodes_items-map see xs)

pub set-put : {X : Type 0} (see : X → NodeData) (head : Head) (xs : List X) (ds : List Data) → ds ≡ map (λ x. node_data (see x)) xs →
    object (put_node member_names.Set member_names.Of head (items_of ds)) ≡ node_data (set head (children_of (map see xs)))
set-put see head xs ds e =
    ap (λ es. object (put_node member_names.Set member_names.Of head (items_of es))) e ∙ ap (λ items. object (put_node member_names.Set member_names.Of head items)) (nodes_items-map see xs)
    ∙ ap object (set-put_at (string (algorithm_text head.combine)) (string head.name) (nodes_items (children_of (map see xs))) (target_items head.target))

pub policy-put : (head : Head) (rules : List RuleData) (ds : List Data) → ds ≡ map rule_data rules →
    object (put_node member_names.Policy member_names.Rules head (items_of ds)) ≡ node_data (policy head rules)
policy-put head rules ds e =
    ap (λ es. object (put_node member_names.Policy member_names.Rules head (items_of es))) e
    ∙ ap object (policy-put_at (string (algorithm_text head.combine)) (string head.name) (items_of (map rule_data rules)) (target_items head.target))
