-- When two parts of documents are equal: a test for each type of plain data, which decides `≡`.
use Rattle.std.specs.Prelude.{◌≡◌, ℕ, Bool, true, false, ◌&&◌, List, refl}
use Rattle.std.specs.Bool.{Decides}
use Rattle.std.specs.Cmp.{first_so, second_so}
use Rattle.std.specs.Cmp.Lexicographic.{pointwise, pointwise_decides, bytes_decides}
use Rattle.std.proofs.Common.{ap}
use Rattle.std.proofs.lemmas.Bool.{false≢true}
use Rattle.features.specs.declared.actors.Action.{Action}
use Rattle.features.specs.declared.actors.Action.TheVariants as actions
use Rattle.plane.specs.Equality.{both_so, decides_by, same_shape, same_shape_decides}
use Rattle.features.specs.Equality.{same_name, same_name-itself}
use Rattle.policy_documents.specs.Documents.{RuleData, Head, NodeData, set, policy, Children, no_children, child, DocumentData}
use Rattle.policy_documents.specs.declared.algorithms.Algorithm.{Algorithm}
use Rattle.policy_documents.specs.declared.algorithms.Algorithm.TheVariants as algorithms
use Rattle.policy_documents.specs.declared.algorithms.Effect.{Effect}
use Rattle.policy_documents.specs.declared.algorithms.Effect.TheVariants as effects
use Rattle.policy_documents.specs.declared.matches.Match.{Match}
use Rattle.policy_documents.specs.declared.matches.Match.TheVariants as matches
use Rattle.policy_documents.specs.declared.matches.Term.{Term}
use Rattle.policy_documents.specs.declared.matches.Term.TheVariants as terms
use Rattle.policy_documents.specs.declared.matches.Atom.{Atom}
use Rattle.policy_documents.specs.declared.matches.Atom.TheVariants as atoms
use Rattle.policy_documents.specs.declared.zones.Zone.{Zone}

abbrev pub same_action : Action → Action → Bool
same_action actions.Read actions.Read = true
same_action actions.Add actions.Add = true
same_action actions.Reshape actions.Reshape = true
same_action actions.Delete actions.Delete = true
same_action a b = false

same_action-itself : (a : Action) → same_action a a ≡ true
same_action-itself actions.Read = refl
same_action-itself actions.Add = refl
same_action-itself actions.Reshape = refl
same_action-itself actions.Delete = refl

same_action-told : (a b : Action) → same_action a b ≡ true → a ≡ b
same_action-told actions.Read actions.Read e = refl
same_action-told actions.Add actions.Add e = refl
same_action-told actions.Reshape actions.Reshape e = refl
same_action-told actions.Delete actions.Delete e = refl
same_action-told a b e = absurd (false≢true e)

abbrev pub same_effect : Effect → Effect → Bool
same_effect effects.Permit effects.Permit = true
same_effect effects.Deny effects.Deny = true
same_effect a b = false

same_effect-itself : (a : Effect) → same_effect a a ≡ true
same_effect-itself effects.Permit = refl
same_effect-itself effects.Deny = refl

same_effect-told : (a b : Effect) → same_effect a b ≡ true → a ≡ b
same_effect-told effects.Permit effects.Permit e = refl
same_effect-told effects.Deny effects.Deny e = refl
same_effect-told a b e = absurd (false≢true e)

abbrev pub same_algorithm : Algorithm → Algorithm → Bool
same_algorithm algorithms.DenyOverrides algorithms.DenyOverrides = true
same_algorithm algorithms.PermitOverrides algorithms.PermitOverrides = true
same_algorithm algorithms.DenyUnlessPermit algorithms.DenyUnlessPermit = true
same_algorithm algorithms.PermitUnlessDeny algorithms.PermitUnlessDeny = true
same_algorithm algorithms.FirstApplicable algorithms.FirstApplicable = true
same_algorithm a b = false

same_algorithm-itself : (a : Algorithm) → same_algorithm a a ≡ true
same_algorithm-itself algorithms.DenyOverrides = refl
same_algorithm-itself algorithms.PermitOverrides = refl
same_algorithm-itself algorithms.DenyUnlessPermit = refl
same_algorithm-itself algorithms.PermitUnlessDeny = refl
same_algorithm-itself algorithms.FirstApplicable = refl

same_algorithm-told : (a b : Algorithm) → same_algorithm a b ≡ true → a ≡ b
same_algorithm-told algorithms.DenyOverrides algorithms.DenyOverrides e = refl
same_algorithm-told algorithms.PermitOverrides algorithms.PermitOverrides e = refl
same_algorithm-told algorithms.DenyUnlessPermit algorithms.DenyUnlessPermit e = refl
same_algorithm-told algorithms.PermitUnlessDeny algorithms.PermitUnlessDeny e = refl
same_algorithm-told algorithms.FirstApplicable algorithms.FirstApplicable e = refl
same_algorithm-told a b e = absurd (false≢true e)

abbrev pub same_match : Match → Match → Bool
same_match (matches.Role a) (matches.Role b) = same_name a b
same_match (matches.Office a) (matches.Office b) = same_name a b
same_match (matches.Class a) (matches.Class b) = same_name a b
same_match (matches.Owner a) (matches.Owner b) = same_name a b
same_match (matches.Zone a) (matches.Zone b) = same_name a b
same_match (matches.Action a) (matches.Action b) = same_action a b
same_match a b = false

same_name-told : (a b : List ℕ) → same_name a b ≡ true → a ≡ b
same_name-told a b = (bytes_decides a b).0

same_match-itself : (a : Match) → same_match a a ≡ true
same_match-itself (matches.Role a) = same_name-itself a
same_match-itself (matches.Office a) = same_name-itself a
same_match-itself (matches.Class a) = same_name-itself a
same_match-itself (matches.Owner a) = same_name-itself a
same_match-itself (matches.Zone a) = same_name-itself a
same_match-itself (matches.Action a) = same_action-itself a

same_match-told : (a b : Match) → same_match a b ≡ true → a ≡ b
same_match-told (matches.Role a) (matches.Role b) e = ap matches.Role (same_name-told a b e)
same_match-told (matches.Office a) (matches.Office b) e = ap matches.Office (same_name-told a b e)
same_match-told (matches.Class a) (matches.Class b) e = ap matches.Class (same_name-told a b e)
same_match-told (matches.Owner a) (matches.Owner b) e = ap matches.Owner (same_name-told a b e)
same_match-told (matches.Zone a) (matches.Zone b) e = ap matches.Zone (same_name-told a b e)
same_match-told (matches.Action a) (matches.Action b) e = ap matches.Action (same_action-told a b e)
same_match-told a b e = absurd (false≢true e)

pub same_match_decides : (a b : Match) → Decides (same_match a b) (a ≡ b)
same_match_decides = decides_by same_match same_match-itself same_match-told

abbrev pub same_term : Term → Term → Bool
same_term (terms.Match a) (terms.Match b) = same_match a b
same_term terms.Own terms.Own = true
same_term a b = false

same_term-itself : (a : Term) → same_term a a ≡ true
same_term-itself (terms.Match a) = same_match-itself a
same_term-itself terms.Own = refl

same_term-told : (a b : Term) → same_term a b ≡ true → a ≡ b
same_term-told (terms.Match a) (terms.Match b) e = ap terms.Match (same_match-told a b e)
same_term-told terms.Own terms.Own e = refl
same_term-told a b e = absurd (false≢true e)

abbrev pub same_atom : Atom → Atom → Bool
same_atom (atoms.Is a) (atoms.Is b) = same_term a b
same_atom (atoms.Not a) (atoms.Not b) = same_term a b
same_atom a b = false

same_atom-itself : (a : Atom) → same_atom a a ≡ true
same_atom-itself (atoms.Is a) = same_term-itself a
same_atom-itself (atoms.Not a) = same_term-itself a

same_atom-told : (a b : Atom) → same_atom a b ≡ true → a ≡ b
same_atom-told (atoms.Is a) (atoms.Is b) e = ap atoms.Is (same_term-told a b e)
same_atom-told (atoms.Not a) (atoms.Not b) e = ap atoms.Not (same_term-told a b e)
same_atom-told a b e = absurd (false≢true e)

pub same_atom_decides : (a b : Atom) → Decides (same_atom a b) (a ≡ b)
same_atom_decides = decides_by same_atom same_atom-itself same_atom-told

-- matches, alternatives and targets are compared as lists
abbrev pub same_all_of : List Match → List Match → Bool
same_all_of = pointwise same_match

abbrev pub same_any_of : List (List Match) → List (List Match) → Bool
same_any_of = pointwise same_all_of

abbrev pub same_target : List (List (List Match)) → List (List (List Match)) → Bool
same_target = pointwise same_any_of

abbrev pub same_conditions : List Atom → List Atom → Bool
same_conditions = pointwise same_atom

pub same_all_of_decides : (a b : List Match) → Decides (same_all_of a b) (a ≡ b)
same_all_of_decides = pointwise_decides same_match_decides

pub same_any_of_decides : (a b : List (List Match)) → Decides (same_any_of a b) (a ≡ b)
same_any_of_decides = pointwise_decides same_all_of_decides

pub same_target_decides : (a b : List (List (List Match))) → Decides (same_target a b) (a ≡ b)
same_target_decides = pointwise_decides same_any_of_decides

pub same_conditions_decides : (a b : List Atom) → Decides (same_conditions a b) (a ≡ b)
same_conditions_decides = pointwise_decides same_atom_decides

abbrev pub same_rule : RuleData → RuleData → Bool
same_rule a b = same_name a.name b.name && same_effect a.effect b.effect && same_target a.target
    b.target && same_conditions a.when b.when

same_rule-itself : (a : RuleData) → same_rule a a ≡ true
same_rule-itself a =
    both_so _ _ (both_so _ _ (both_so _ _ (same_name-itself a.name) (same_effect-itself a.effect))
    ((same_target_decides a.target a.target).1 refl))
    ((same_conditions_decides a.when a.when).1 refl)

same_rule-by : (a b : RuleData) → a.name ≡ b.name → a.effect ≡ b.effect → a.target ≡ b.target
    → a.when ≡ b.when → a ≡ b
same_rule-by a b p q r s = λ i. record { name = p i; effect = q i; target = r i; when = s i }

same_rule-told : (a b : RuleData) → same_rule a b ≡ true → a ≡ b
same_rule-told a b e =
    let three = first_so (same_name a.name b.name && same_effect a.effect b.effect && same_target
    a.target b.target) (same_conditions a.when b.when) e in
    let two = first_so (same_name a.name b.name && same_effect a.effect b.effect)
    (same_target a.target b.target) three in
    same_rule-by a b (same_name-told a.name b.name
    (first_so (same_name a.name b.name) (same_effect a.effect b.effect) two))
    (same_effect-told a.effect b.effect
    (second_so (same_name a.name b.name) (same_effect a.effect b.effect) two))
    ((same_target_decides a.target b.target).0
    (second_so (same_name a.name b.name && same_effect a.effect b.effect)
    (same_target a.target b.target) three))
    ((same_conditions_decides a.when b.when).0
    (second_so (same_name a.name b.name && same_effect a.effect b.effect && same_target a.target
    b.target) (same_conditions a.when b.when) e))

pub same_rule_decides : (a b : RuleData) → Decides (same_rule a b) (a ≡ b)
same_rule_decides = decides_by same_rule same_rule-itself same_rule-told

abbrev pub same_head : Head → Head → Bool
same_head a b = same_name a.name b.name && same_algorithm a.combine b.combine && same_target
    a.target b.target

same_head-itself : (a : Head) → same_head a a ≡ true
same_head-itself a = both_so _ _
    (both_so _ _ (same_name-itself a.name) (same_algorithm-itself a.combine))
    ((same_target_decides a.target a.target).1 refl)

same_head-by : (a b : Head) → a.name ≡ b.name → a.combine ≡ b.combine → a.target ≡ b.target → a ≡ b
same_head-by a b p q r = λ i. record { name = p i; combine = q i; target = r i }

same_head-told : (a b : Head) → same_head a b ≡ true → a ≡ b
same_head-told a b e =
    let two = first_so (same_name a.name b.name && same_algorithm a.combine b.combine)
    (same_target a.target b.target) e in
    same_head-by a b (same_name-told a.name b.name
    (first_so (same_name a.name b.name) (same_algorithm a.combine b.combine) two))
    (same_algorithm-told a.combine b.combine
    (second_so (same_name a.name b.name) (same_algorithm a.combine b.combine) two))
    ((same_target_decides a.target b.target).0
    (second_so (same_name a.name b.name && same_algorithm a.combine b.combine)
    (same_target a.target b.target) e))

-- what a set and a policy have in common
abbrev pub head_of : NodeData → Head
head_of (set head _) = head
head_of (policy head _) = head

abbrev pub same_rules : List RuleData → List RuleData → Bool
same_rules = pointwise same_rule

pub same_rules_decides : (a b : List RuleData) → Decides (same_rules a b) (a ≡ b)
same_rules_decides = pointwise_decides same_rule_decides

abbrev mutual
  pub same_node : NodeData → NodeData → Bool
  same_node (set h c) (set k d) = same_head h k && same_children c d
  same_node (policy h r) (policy k s) = same_head h k && same_rules r s
  same_node (set h c) (policy k s) = false
  same_node (policy h r) (set k d) = false

  pub same_children : Children → Children → Bool
  same_children no_children no_children = true
  same_children (child a rest) (child b others) = same_node a b && same_children rest others
  same_children no_children (child b others) = false
  same_children (child a rest) no_children = false

mutual
  same_node-itself : (a : NodeData) → same_node a a ≡ true
  same_node-itself (set h c) = both_so _ _ (same_head-itself h) (same_children-itself c)
  same_node-itself (policy h r) = both_so _ _ (same_head-itself h) ((same_rules_decides r r).1 refl)

  same_children-itself : (a : Children) → same_children a a ≡ true
  same_children-itself no_children = refl
  same_children-itself (child a rest) = both_so _ _ (same_node-itself a) (same_children-itself rest)

mutual
  same_node-told : (a b : NodeData) → same_node a b ≡ true → a ≡ b
  same_node-told (set h c) (set k d) e =
      let p = same_head-told h k (first_so (same_head h k) (same_children c d) e) in
      let q = same_children-told c d (second_so (same_head h k) (same_children c d) e) in
      λ i. set (p i) (q i)
  same_node-told (policy h r) (policy k s) e =
      let p = same_head-told h k (first_so (same_head h k) (same_rules r s) e) in
      let q = (same_rules_decides r s).0 (second_so (same_head h k) (same_rules r s) e) in
      λ i. policy (p i) (q i)
  same_node-told (set h c) (policy k s) e = absurd (false≢true e)
  same_node-told (policy h r) (set k d) e = absurd (false≢true e)

  same_children-told : (a b : Children) → same_children a b ≡ true → a ≡ b
  same_children-told no_children no_children e = refl
  same_children-told (child a rest) (child b others) e =
      let p = same_node-told a b (first_so (same_node a b) (same_children rest others) e) in
      let q = same_children-told rest others
      (second_so (same_node a b) (same_children rest others) e) in
      λ i. child (p i) (q i)
  same_children-told no_children (child b others) e = absurd (false≢true e)
  same_children-told (child a rest) no_children e = absurd (false≢true e)

pub same_node_decides : (a b : NodeData) → Decides (same_node a b) (a ≡ b)
same_node_decides = decides_by same_node same_node-itself same_node-told

abbrev pub same_zone : Zone → Zone → Bool
same_zone a b = same_name a.name b.name && same_shape a.shape b.shape

same_zone-itself : (a : Zone) → same_zone a a ≡ true
same_zone-itself a = both_so _ _ (same_name-itself a.name)
    ((same_shape_decides a.shape a.shape).1 refl)

same_zone-by : (a b : Zone) → a.name ≡ b.name → a.shape ≡ b.shape → a ≡ b
same_zone-by a b p q = λ i. record { name = p i; shape = q i }

same_zone-told : (a b : Zone) → same_zone a b ≡ true → a ≡ b
same_zone-told a b e =
    same_zone-by a b (same_name-told a.name b.name
    (first_so (same_name a.name b.name) (same_shape a.shape b.shape) e))
    ((same_shape_decides a.shape b.shape).0
    (second_so (same_name a.name b.name) (same_shape a.shape b.shape) e))

pub same_zone_decides : (a b : Zone) → Decides (same_zone a b) (a ≡ b)
same_zone_decides = decides_by same_zone same_zone-itself same_zone-told

abbrev pub same_zones : List Zone → List Zone → Bool
same_zones = pointwise same_zone

pub same_zones_decides : (a b : List Zone) → Decides (same_zones a b) (a ≡ b)
same_zones_decides = pointwise_decides same_zone_decides

-- the same zones in the same order, and the same tree
abbrev pub same_document : DocumentData → DocumentData → Bool
same_document a b = same_zones a.zones b.zones && same_node a.root b.root

same_document-itself : (a : DocumentData) → same_document a a ≡ true
same_document-itself a = both_so _ _ ((same_zones_decides a.zones a.zones).1 refl)
    (same_node-itself a.root)

same_document-by : (a b : DocumentData) → a.zones ≡ b.zones → a.root ≡ b.root → a ≡ b
same_document-by a b p q = λ i. record { zones = p i; root = q i }

same_document-told : (a b : DocumentData) → same_document a b ≡ true → a ≡ b
same_document-told a b e =
    same_document-by a b ((same_zones_decides a.zones b.zones).0
    (first_so (same_zones a.zones b.zones) (same_node a.root b.root) e))
    (same_node-told a.root b.root
    (second_so (same_zones a.zones b.zones) (same_node a.root b.root) e))

pub same_document_decides : (a b : DocumentData) → Decides (same_document a b) (a ≡ b)
same_document_decides = decides_by same_document same_document-itself same_document-told
