-- The JSON value of a document has no float and does not nest deep.
use Rattle.std.proofs.Common.{◌≡◌, ℕ, suc, ◌+◌, ◌*◌, ◌≤◌, Bool, true, false, ◌||◌, List, [], ◌∷◌, map, refl, arith}
use Rattle.serde_json.specs.Data.{Data, string, array, object, depth, items_depth, members_depth, Items, no_items, item, Members, no_members}
use Rattle.serde_json.specs.View.{items_of}
use Rattle.serde_json.specs.Written.{has_float, items_have_float, members_have_float}
use Rattle.wkt.specs.Printing.{printed}
use Rattle.policy_documents.specs.Documents.{DocumentData, IsDocument, RuleData, Head, NodeData, set, policy, Children, no_children, child, depth_of, depth_of_all}
use Rattle.policy_text.specs.Printed.{action_text, effect_text, algorithm_text, keyed, keyed_items, single, match_data, term_data, atom_data, all_of_data, any_of_data, target_items, when_items, rule_data, node_data, nodes_items, zone_data, zones_items, document_data}
use Rattle.policy_documents.specs.declared.zones.Zone.{Zone}
use Rattle.policy_text.specs.declared.paths.MemberName.{MemberName}
use Rattle.policy_text.specs.declared.paths.MemberName.TheVariants as member_names
use Rattle.policy_documents.specs.declared.matches.Match.{Match}
use Rattle.policy_documents.specs.declared.matches.Match.TheVariants as matches
use Rattle.policy_documents.specs.declared.matches.Term.{Term}
use Rattle.policy_documents.specs.declared.matches.Term.TheVariants as terms
use Rattle.policy_documents.specs.declared.matches.Atom.{Atom}
use Rattle.policy_documents.specs.declared.matches.Atom.TheVariants as atoms

-- a value has no float, and nests at most `limit` deep
pub record IsPlain (limit : ℕ) (d : Data) : Type 0 where
  pub whole : has_float d ≡ false
  pub shallow : depth d ≤ limit

pub record ArePlain (limit : ℕ) (ds : Items) : Type 0 where
  pub whole : items_have_float ds ≡ false
  pub shallow : items_depth ds ≤ limit

pub record HasPlain (limit : ℕ) (ms : Members) : Type 0 where
  pub whole : members_have_float ms ≡ false
  pub shallow : members_depth ms ≤ limit

neither : (a b : Bool) → a ≡ false → b ≡ false → (a || b) ≡ false
neither true b e f = cc
neither false b e f = f

no_items-plain : (limit : ℕ) → ArePlain limit no_items
no_items-plain limit = record { whole = refl; shallow = omega arith }

item-plain : (limit : ℕ) (d : Data) (ds : Items) → IsPlain limit d → ArePlain limit ds → ArePlain limit (item d ds)
item-plain limit d ds h g = record { whole = neither _ _ h.whole g.whole; shallow = omega (arith, h.shallow, g.shallow) }

items_of-plain : {X : Type 0} (f : X → Data) (limit : ℕ) → ((x : X) → IsPlain limit (f x)) → (xs : List X) → ArePlain limit (items_of (map f xs))
items_of-plain f limit h [] = no_items-plain limit
items_of-plain f limit h (x ∷ xs) = item-plain limit (f x) _ (h x) (items_of-plain f limit h xs)

array-plain : (limit : ℕ) (ds : Items) → ArePlain limit ds → IsPlain (suc limit) (array ds)
array-plain limit ds h = record { whole = h.whole; shallow = omega (arith, h.shallow) }

object-plain : (limit : ℕ) (ms : Members) → HasPlain limit ms → IsPlain (suc limit) (object ms)
object-plain limit ms h = record { whole = h.whole; shallow = omega (arith, h.shallow) }

no_members-plain : (limit : ℕ) → HasPlain limit no_members
no_members-plain limit = record { whole = refl; shallow = omega arith }

keyed-plain : (limit : ℕ) (key : MemberName) (d : Data) (ms : Members) → IsPlain limit d → HasPlain limit ms → HasPlain limit (keyed key d ms)
keyed-plain limit key d ms h g = record { whole = neither _ _ h.whole g.whole; shallow = omega (arith, h.shallow, g.shallow) }

text-plain : (limit : ℕ) (s : List ℕ) → IsPlain limit (string s)
text-plain limit s = record { whole = refl; shallow = omega arith }

keyed_items-plain : (limit : ℕ) (key : MemberName) (ds : Items) (ms : Members) → ArePlain limit ds → HasPlain (suc limit) ms → HasPlain (suc limit) (keyed_items key ds ms)
keyed_items-plain limit key no_items ms h g = g
keyed_items-plain limit key (item d ds) ms h g = keyed-plain (suc limit) key (array (item d ds)) ms (array-plain limit (item d ds) h) g

single-plain : (limit : ℕ) (key : MemberName) (d : Data) → IsPlain limit d → IsPlain (suc limit) (single key d)
single-plain limit key d h = object-plain limit _ (keyed-plain limit key d no_members h (no_members-plain limit))

match-plain : (m : Match) → IsPlain 1 (match_data m)
match-plain (matches.Role name) = single-plain 0 member_names.Role (string name) (text-plain 0 name)
match-plain (matches.Office name) = single-plain 0 member_names.Office (string name) (text-plain 0 name)
match-plain (matches.Class name) = single-plain 0 member_names.Class (string name) (text-plain 0 name)
match-plain (matches.Owner name) = single-plain 0 member_names.Owner (string name) (text-plain 0 name)
match-plain (matches.Zone name) = single-plain 0 member_names.Zone (string name) (text-plain 0 name)
match-plain (matches.Action action) = single-plain 0 member_names.Action (string (action_text action)) (text-plain 0 (action_text action))

term-plain : (term : Term) → IsPlain 1 (term_data term)
term-plain (terms.Match m) = match-plain m
term-plain terms.Own = record { whole = refl; shallow = omega arith }

atom-plain : (atom : Atom) → IsPlain 3 (atom_data atom)
atom-plain (atoms.Is term) = let h = term-plain term in record { whole = h.whole; shallow = omega (arith, h.shallow) }
atom-plain (atoms.Not term) = let h = single-plain 1 member_names.Not (term_data term) (term-plain term) in record { whole = h.whole; shallow = omega (arith, h.shallow) }

all_of-plain : (all : List Match) → IsPlain 2 (all_of_data all)
all_of-plain all = array-plain 1 _ (items_of-plain match_data 1 match-plain all)

any_of-plain : (alternatives : List (List Match)) → IsPlain 3 (any_of_data alternatives)
any_of-plain alternatives = array-plain 2 _ (items_of-plain all_of_data 2 all_of-plain alternatives)

target-plain : (target : List (List (List Match))) → ArePlain 3 (target_items target)
target-plain target = items_of-plain any_of_data 3 any_of-plain target

rule-plain : (rule : RuleData) → IsPlain 5 (rule_data rule)
rule-plain rule =
    object-plain 4 _ (keyed-plain 4 member_names.Effect _ _ (text-plain 4 (effect_text rule.effect)) (keyed-plain 4 member_names.Rule _ _ (text-plain 4 rule.name)
    (keyed_items-plain 3 member_names.Target (target_items rule.target) _ (target-plain rule.target)
    (keyed_items-plain 3 member_names.When (when_items rule.when) no_members (items_of-plain atom_data 3 atom-plain rule.when) (no_members-plain 4)))))

-- the target among the members of a set or a policy
head-plain : (limit : ℕ) (target : List (List (List Match))) → 4 ≤ limit → HasPlain limit (keyed_items member_names.Target (target_items target) no_members)
head-plain limit target room =
    let h = keyed_items-plain 3 member_names.Target (target_items target) no_members (target-plain target) (no_members-plain 4) in
    record { whole = h.whole; shallow = omega (arith, h.shallow) }

IsPlain-more : (a b : ℕ) (d : Data) → a ≤ b → IsPlain a d → IsPlain b d
IsPlain-more a b d more h = record { whole = h.whole; shallow = omega (arith, h.shallow) }

ArePlain-more : (a b : ℕ) (ds : Items) → a ≤ b → ArePlain a ds → ArePlain b ds
ArePlain-more a b ds more h = record { whole = h.whole; shallow = omega (arith, h.shallow) }

-- a set whose children are plain is plain
set-plain : (limit : ℕ) (head : Head) (children : Children) → 3 ≤ limit → ArePlain limit (nodes_items children) → IsPlain (suc (suc limit)) (node_data (set head children))
set-plain limit head children room h =
    object-plain (suc limit) _ (keyed-plain (suc limit) member_names.Combine _ _ (text-plain (suc limit) (algorithm_text head.combine))
    (keyed-plain (suc limit) member_names.Of _ _ (array-plain limit (nodes_items children) h)
    (keyed-plain (suc limit) member_names.Set _ _ (text-plain (suc limit) head.name) (head-plain (suc limit) head.target (omega arith)))))

policy-plain : (head : Head) (rules : List RuleData) → IsPlain 7 (node_data (policy head rules))
policy-plain head rules =
    object-plain 6 _ (keyed-plain 6 member_names.Combine _ _ (text-plain 6 (algorithm_text head.combine)) (keyed-plain 6 member_names.Policy _ _ (text-plain 6 head.name)
    (keyed-plain 6 member_names.Rules _ _ (array-plain 5 _ (items_of-plain rule_data 5 rule-plain rules)) (head-plain 6 head.target (omega arith)))))

-- each set or policy nests two levels of JSON, and what is below them five
mutual
  node-plain : (n : NodeData) → IsPlain (2 * depth_of n + 5) (node_data n)
  node-plain (set head children) =
      IsPlain-more _ _ _ (omega arith) (set-plain (2 * depth_of_all children + 5) head children (omega arith) (nodes-plain children))
  node-plain (policy head rules) = policy-plain head rules

  nodes-plain : (ns : Children) → ArePlain (2 * depth_of_all ns + 5) (nodes_items ns)
  nodes-plain no_children = no_items-plain _
  nodes-plain (child node rest) =
      item-plain _ (node_data node) (nodes_items rest) (IsPlain-more _ _ _ (omega arith) (node-plain node)) (ArePlain-more _ _ _ (omega arith) (nodes-plain rest))

zone-plain : (z : Zone) → IsPlain 1 (zone_data z)
zone-plain z =
    object-plain 0 _ (keyed-plain 0 member_names.Shape _ _ (text-plain 0 (printed z.shape)) (keyed-plain 0 member_names.Zone _ _ (text-plain 0 z.name) (no_members-plain 0)))

pub document-plain : (d : DocumentData) → IsDocument d → IsPlain 127 (document_data d)
document-plain d h =
    let depth_fits = h.depth in
    let zones = items_of-plain zone_data 1 zone-plain d.zones in
    object-plain 126 _ (keyed-plain 126 member_names.Root _ _ (IsPlain-more _ _ _ (omega arith) (node-plain d.root))
    (keyed_items-plain 125 member_names.Zones (zones_items d.zones) no_members (ArePlain-more 1 125 _ (omega arith) zones) (no_members-plain 126)))
