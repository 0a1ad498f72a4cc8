-- The JSON value of a document: the keys of each object are sorted, and empty zones, targets and
-- conditions are left out.
use Rattle.std.specs.Prelude.{ℕ, true, List, map, codes}
use Rattle.serde_json.specs.Data.{Data, string, array, object, boolean, Items, no_items, item, Members, no_members, member}
use Rattle.serde_json.specs.View.{items_of}
use Rattle.serde_json.specs.Written.{compact_text}
use Rattle.features.specs.declared.actors.Action.{Action}
use Rattle.features.specs.declared.actors.Action.TheVariants as actions
use Rattle.wkt.specs.Printing.{printed}
use Rattle.policy_documents.specs.Documents.{DocumentData, RuleData, NodeData, set, policy, Children, no_children, child}
use Rattle.policy_text.specs.Keys.{key_text}
use Rattle.policy_documents.specs.declared.zones.Zone.{Zone}
use Rattle.policy_text.specs.declared.paths.MemberName.{MemberName}
use Rattle.policy_text.specs.declared.paths.MemberName.TheVariants as member_names
use Rattle.policy_documents.specs.declared.algorithms.Algorithm.{Algorithm}
use Rattle.policy_documents.specs.declared.algorithms.Algorithm.TheVariants.{DenyOverrides, PermitOverrides, DenyUnlessPermit, PermitUnlessDeny, FirstApplicable}
use Rattle.policy_documents.specs.declared.algorithms.Effect.{Effect}
use Rattle.policy_documents.specs.declared.algorithms.Effect.TheVariants as effects
use Rattle.policy_documents.specs.declared.matches.Match.{Match}
use Rattle.policy_documents.specs.declared.matches.Match.TheVariants as matches
use Rattle.policy_documents.specs.declared.matches.Term.{Term}
use Rattle.policy_documents.specs.declared.matches.Term.TheVariants as terms
use Rattle.policy_documents.specs.declared.matches.Atom.{Atom}
use Rattle.policy_documents.specs.declared.matches.Atom.TheVariants as atoms

-- the words of algorithms, effects and actions
abbrev pub algorithm_text : Algorithm → List ℕ
algorithm_text DenyOverrides = codes "deny-overrides"
algorithm_text PermitOverrides = codes "permit-overrides"
algorithm_text DenyUnlessPermit = codes "deny-unless-permit"
algorithm_text PermitUnlessDeny = codes "permit-unless-deny"
algorithm_text FirstApplicable = codes "first-applicable"

abbrev pub effect_text : Effect → List ℕ
effect_text effects.Permit = codes "permit"
effect_text effects.Deny = codes "deny"

abbrev pub action_text : Action → List ℕ
action_text actions.Read = codes "read"
action_text actions.Add = codes "add"
action_text actions.Reshape = codes "reshape"
action_text actions.Delete = codes "delete"

-- a member under a key, before others
abbrev pub keyed : MemberName → Data → Members → Members
keyed key d rest = member (key_text key) d rest

-- an array under a key, left out if it is empty
abbrev pub keyed_items : MemberName → Items → Members → Members
keyed_items key no_items rest = rest
keyed_items key (item d ds) rest = keyed key (array (item d ds)) rest

-- an object with one member
abbrev pub single : MemberName → Data → Data
single key d = object (keyed key d no_members)

abbrev pub match_data : Match → Data
match_data (matches.Role name) = single member_names.Role (string name)
match_data (matches.Office name) = single member_names.Office (string name)
match_data (matches.Class name) = single member_names.Class (string name)
match_data (matches.Owner name) = single member_names.Owner (string name)
match_data (matches.Zone name) = single member_names.Zone (string name)
match_data (matches.Action action) = single member_names.Action (string (action_text action))

abbrev pub term_data : Term → Data
term_data (terms.Match m) = match_data m
term_data terms.Own = single member_names.Own (boolean true)

abbrev pub atom_data : Atom → Data
atom_data (atoms.Is term) = term_data term
atom_data (atoms.Not term) = single member_names.Not (term_data term)

abbrev pub all_of_data : List Match → Data
all_of_data all = array (items_of (map match_data all))

abbrev pub any_of_data : List (List Match) → Data
any_of_data alternatives = array (items_of (map all_of_data alternatives))

abbrev pub target_items : List (List (List Match)) → Items
target_items target = items_of (map any_of_data target)

abbrev pub when_items : List Atom → Items
when_items conditions = items_of (map atom_data conditions)

abbrev pub rule_data : RuleData → Data
rule_data rule = object (keyed member_names.Effect (string (effect_text rule.effect))
    (keyed member_names.Rule (string rule.name)
    (keyed_items member_names.Target (target_items rule.target)
    (keyed_items member_names.When (when_items rule.when) no_members))))

abbrev mutual
  pub node_data : NodeData → Data
  node_data (set head children) =
      object (keyed member_names.Combine (string (algorithm_text head.combine))
      (keyed member_names.Of (array (nodes_items children))
      (keyed member_names.Set (string head.name)
      (keyed_items member_names.Target (target_items head.target) no_members))))
  node_data (policy head rules) =
      object (keyed member_names.Combine (string (algorithm_text head.combine))
      (keyed member_names.Policy (string head.name)
      (keyed member_names.Rules (array (items_of (map rule_data rules)))
      (keyed_items member_names.Target (target_items head.target) no_members))))

  pub nodes_items : Children → Items
  nodes_items no_children = no_items
  nodes_items (child node rest) = item (node_data node) (nodes_items rest)

abbrev pub zone_data : Zone → Data
zone_data z = object (keyed member_names.Shape (string (printed z.shape))
    (keyed member_names.Zone (string z.name) no_members))

abbrev pub zones_items : List Zone → Items
zones_items zones = items_of (map zone_data zones)

abbrev pub document_data : DocumentData → Data
document_data d = object (keyed member_names.Root (node_data d.root)
    (keyed_items member_names.Zones (zones_items d.zones) no_members))

-- a document as JSON (RFC 8259) without spaces, the keys of each object sorted
abbrev pub document_text : DocumentData → List ℕ
document_text d = compact_text (document_data d)
