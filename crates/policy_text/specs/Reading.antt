-- Reading a document: the document that the JSON value of a text spells, or its first fault.
use Rattle.std.specs.Prelude.{◌≡◌, ℕ, zero, suc, ◌+◌, ◌&&◌, Bool, true, false, List, [], ◌∷◌, ◌++◌, codes, length, nat_lt, if◌then◌else◌, Option, Some, None, is_some, option_and_then, Result, Ok, Err}
use Rattle.std.specs.List.{list_any}
use Rattle.std.specs.Option.{ok_or}
use Rattle.std.specs.Str.{bytes_eq}
use Rattle.serde_json.specs.Data.{Data, Items, no_items, item, Members, no_members, member}
use Rattle.serde_json.specs.Find.{get, as_bool, as_str, as_array, as_object}
use Rattle.features.specs.Names.{name_of}
use Rattle.features.specs.declared.actors.Action.{Action}
use Rattle.features.specs.declared.actors.Action.TheVariants as actions
use Rattle.plane.specs.declared.point.Point.{Point}
use Rattle.wkt.specs.Reading.{shape_of}
use Rattle.wkt.specs.declared.fault.WktFault.{WktFault}
use Rattle.serde_json.specs.Read.{read}
use Rattle.policy_documents.specs.Documents.{DocumentData, RuleData, Head, NodeData, set, policy, children_of}
use Rattle.features.specs.Equality.{same_name}
use Rattle.policy_text.specs.Keys.{key_text}
use Rattle.policy_documents.specs.declared.documents.TheConstants.{DEPTH_LIMIT, NODE_LIMIT, RULE_LIMIT, TEST_LIMIT, ZONE_LIMIT}
use Rattle.policy_documents.specs.declared.zones.Zone.{Zone}
use Rattle.policy_text.specs.declared.paths.MemberName.{MemberName}
use Rattle.policy_text.specs.declared.paths.MemberName.TheVariants as member_names
use Rattle.policy_text.specs.declared.paths.PathPart.{PathPart}
use Rattle.policy_text.specs.declared.paths.PathPart.TheVariants as path_parts
use Rattle.policy_text.specs.declared.faults.TextFault.{TextFault}
use Rattle.policy_text.specs.declared.faults.TextFault.TheVariants as faults
use Rattle.policy_documents.specs.declared.algorithms.Algorithm.{Algorithm}
use Rattle.policy_documents.specs.declared.algorithms.Algorithm.TheVariants.{DenyOverrides, PermitOverrides, DenyUnlessPermit, PermitUnlessDeny, FirstApplicable}
use Rattle.policy_documents.specs.declared.algorithms.Effect.{Effect}
use Rattle.policy_documents.specs.declared.algorithms.Effect.TheVariants as effects
use Rattle.policy_documents.specs.declared.matches.Match.{Match}
use Rattle.policy_documents.specs.declared.matches.Match.TheVariants as matches
use Rattle.policy_documents.specs.declared.matches.Term.{Term}
use Rattle.policy_documents.specs.declared.matches.Term.TheVariants as terms
use Rattle.policy_documents.specs.declared.matches.Atom.{Atom}
use Rattle.policy_documents.specs.declared.matches.Atom.TheVariants as atoms

infixl 10 ◌>>=◌
abbrev pub ◌>>=◌ : {A B : Type 0} → Result A TextFault → (A → Result B TextFault)
    → Result B TextFault
(Ok x) >>= f = f x
(Err e) >>= f = Err e

-- the reading has this fault, unless the fault is out of memory
abbrev pub Fails : {Y : Type 0} → TextFault → Result Y TextFault → Type 0
Fails (faults.Memory refused) reading = Unit {0}
Fails faults.NotJson reading = reading ≡ Err faults.NotJson
Fails (faults.Form path) reading = reading ≡ Err (faults.Form path)
Fails (faults.UnknownKey path) reading = reading ≡ Err (faults.UnknownKey path)
Fails (faults.NameTwice path name) reading = reading ≡ Err (faults.NameTwice path name)
Fails (faults.NoZone path name) reading = reading ≡ Err (faults.NoZone path name)
Fails (faults.BadZone path name fault) reading = reading ≡ Err (faults.BadZone path name fault)
Fails (faults.TooDeep path) reading = reading ≡ Err (faults.TooDeep path)
Fails (faults.TooMany path) reading = reading ≡ Err (faults.TooMany path)

-- the function's result, seen through `view`, is that of the reading, unless it is out of memory
abbrev pub Gives : {X Y : Type 0} → (X → Y) → Result X TextFault → Result Y TextFault → Type 0
Gives view (Ok x) reading = reading ≡ Ok (view x)
Gives view (Err e) reading = Fails e reading

-- the same for a function that does not allocate
abbrev pub Shows : {X Y : Type 0} → (X → Y) → Result X TextFault → Result Y TextFault → Type 0
Shows view (Ok x) reading = reading ≡ Ok (view x)
Shows view (Err e) reading = reading ≡ Err e

-- if the reading has a fault, it is the function's error, however much memory there is
abbrev pub Tells : {X Y : Type 0} → Result X TextFault → Result Y TextFault → Type 0
Tells result (Ok y) = Unit {0}
Tells result (Err e) = result ≡ Err e

-- the path of the value under a key
abbrev pub at_key : List PathPart → MemberName → List PathPart
at_key path key = path ++ path_parts.Member key ∷ []

-- the path of an item of an array
abbrev pub at_item : List PathPart → ℕ → List PathPart
at_item path index = path ++ path_parts.Item index ∷ []

abbrev pub value_of : MemberName → Data → Option Data
value_of key d = get (key_text key) d

-- the text is one of these keys
abbrev pub is_listed : List MemberName → List ℕ → Bool
is_listed listed text = list_any (λ key. bytes_eq (key_text key) text) listed

-- all keys of the object are listed
abbrev pub has_only : List MemberName → Members → Bool
has_only listed no_members = true
has_only listed (member text d rest) = is_listed listed text && has_only listed rest

-- the value is an object whose keys are all listed
abbrev pub object_in : List MemberName → List PathPart → Data → Result (Unit {0}) TextFault
object_in listed path d = ok_or (as_object d) (faults.Form path) >>= λ members. if has_only listed
    members then Ok tt else Err (faults.UnknownKey path)

-- the name under a key
abbrev pub name_in : MemberName → List PathPart → Data → Result (List ℕ) TextFault
name_in key path d = ok_or (option_and_then name_of (option_and_then as_str (value_of key d)))
    (faults.Form (at_key path key))

-- the array under a key
abbrev pub array_in : MemberName → List PathPart → Data → Result Items TextFault
array_in key path d = ok_or (option_and_then as_array (value_of key d))
    (faults.Form (at_key path key))

-- the array under a key; empty if the object does not have the key
unfoldable pub optional_array_in : MemberName → List PathPart → Data → Result Items TextFault
optional_array_in key path d = option_array (value_of key d)
  where
    option_array : Option Data → Result Items TextFault
    option_array None = Ok no_items
    option_array (Some e) = ok_or (as_array e) (faults.Form (at_key path key))

abbrev pub algorithm_named : List ℕ → Option Algorithm
algorithm_named text =
    if bytes_eq text (codes "deny-overrides") then Some DenyOverrides
    else if bytes_eq text (codes "permit-overrides") then Some PermitOverrides
    else if bytes_eq text (codes "deny-unless-permit") then Some DenyUnlessPermit
    else if bytes_eq text (codes "permit-unless-deny") then Some PermitUnlessDeny
    else if bytes_eq text (codes "first-applicable") then Some FirstApplicable
    else None

abbrev pub algorithm_in : List PathPart → Data → Result Algorithm TextFault
algorithm_in path d = ok_or (option_and_then algorithm_named
    (option_and_then as_str (value_of member_names.Combine d)))
    (faults.Form (at_key path member_names.Combine))

abbrev pub effect_named : List ℕ → Option Effect
effect_named text =
    if bytes_eq text (codes "permit") then Some effects.Permit
    else if bytes_eq text (codes "deny") then Some effects.Deny
    else None

abbrev pub effect_in : List PathPart → Data → Result Effect TextFault
effect_in path d = ok_or (option_and_then effect_named
    (option_and_then as_str (value_of member_names.Effect d)))
    (faults.Form (at_key path member_names.Effect))

abbrev pub action_named : List ℕ → Option Action
action_named text =
    if bytes_eq text (codes "read") then Some actions.Read
    else if bytes_eq text (codes "add") then Some actions.Add
    else if bytes_eq text (codes "reshape") then Some actions.Reshape
    else if bytes_eq text (codes "delete") then Some actions.Delete
    else None

abbrev pub action_in : List PathPart → Data → Result Action TextFault
action_in path d = ok_or (option_and_then action_named
    (option_and_then as_str (value_of member_names.Action d)))
    (faults.Form (at_key path member_names.Action))

-- an object has exactly one key
abbrev pub has_one : Members → Bool
has_one no_members = false
has_one (member text d no_members) = true
has_one (member text d (member more e rest)) = false

-- the value is an object with exactly one key, which is listed
abbrev pub single_in : List MemberName → List PathPart → Data → Result (Unit {0}) TextFault
single_in listed path d = ok_or (as_object d) (faults.Form path) >>= λ members.
    if has_only listed members then (if has_one members then Ok tt else Err (faults.Form path))
    else Err (faults.UnknownKey path)

-- the object has this key
abbrev pub has_key : MemberName → Data → Bool
has_key key d = is_some (value_of key d)

-- the match of an object whose only key is a match's
unfoldable pub match_in : List PathPart → Data → Result Match TextFault
match_in path d =
    if has_key member_names.Role d then
    (name_in member_names.Role path d >>= λ name. Ok (matches.Role name))
    else if has_key member_names.Office d then
    (name_in member_names.Office path d >>= λ name. Ok (matches.Office name))
    else if has_key member_names.Class d then
    (name_in member_names.Class path d >>= λ name. Ok (matches.Class name))
    else if has_key member_names.Owner d then
    (name_in member_names.Owner path d >>= λ name. Ok (matches.Owner name))
    else if has_key member_names.Zone d then
    (name_in member_names.Zone path d >>= λ name. Ok (matches.Zone name))
    else (action_in path d >>= λ action. Ok (matches.Action action))

-- the zone of a match exists; otherwise its name is at fault
abbrev pub known_in : List Zone → List PathPart → Match → Result (Unit {0}) TextFault
known_in zones path (matches.Zone name) =
    if list_any (λ z. same_name name z.name) zones then Ok tt
    else Err (faults.NoZone (at_key path member_names.Zone) name)
known_in zones path (matches.Role name) = Ok tt
known_in zones path (matches.Office name) = Ok tt
known_in zones path (matches.Class name) = Ok tt
known_in zones path (matches.Owner name) = Ok tt
known_in zones path (matches.Action action) = Ok tt

-- `count + 1`, unless `count` has reached the limit: then the value at the path is one too many
abbrev pub within : List PathPart → ℕ → ℕ → Result ℕ TextFault
within path limit count = if nat_lt count limit then Ok (count + 1) else Err (faults.TooMany path)

-- one more match or atom
abbrev pub counted : List PathPart → ℕ → Result ℕ TextFault
counted path = within path TEST_LIMIT

abbrev pub match_keys : List MemberName
match_keys = member_names.Role ∷ member_names.Office ∷ member_names.Class ∷ member_names.Owner
    ∷ member_names.Zone ∷ member_names.Action ∷ []

-- a match, with the count of matches and atoms after it
unfoldable pub match_at : List Zone → List PathPart → ℕ → Data → Result (Match × ℕ) TextFault
match_at zones path tests d =
    single_in match_keys path d >>= λ _. match_in path d >>= λ m. known_in zones path m >>= λ _.
    counted path tests >>= λ n. Ok (m, n)

abbrev pub is_true : Option Bool → Bool
is_true None = false
is_true (Some b) = b

abbrev pub is_empty : Items → Bool
is_empty no_items = true
is_empty (item d rest) = false

-- the subject's own office: the key `own`, whose value is true
abbrev pub own_in : List PathPart → Data → Result Term TextFault
own_in path d = if is_true (option_and_then as_bool (value_of member_names.Own d)) then Ok terms.Own
    else Err (faults.Form (at_key path member_names.Own))

unfoldable pub term_in : List PathPart → Data → Result Term TextFault
term_in path d = if has_key member_names.Own d then own_in path d
    else (match_in path d >>= λ m. Ok (terms.Match m))

abbrev pub known_term : List Zone → List PathPart → Term → Result (Unit {0}) TextFault
known_term zones path (terms.Match m) = known_in zones path m
known_term zones path terms.Own = Ok tt

abbrev pub term_keys : List MemberName
term_keys = member_names.Role ∷ member_names.Office ∷ member_names.Class ∷ member_names.Owner
    ∷ member_names.Zone ∷ member_names.Action ∷ member_names.Own ∷ []

abbrev pub atom_keys : List MemberName
atom_keys = member_names.Role ∷ member_names.Office ∷ member_names.Class ∷ member_names.Owner
    ∷ member_names.Zone ∷ member_names.Action ∷ member_names.Own ∷ member_names.Not ∷ []

-- the term of an object whose only key is a term's
unfoldable pub term_of : List Zone → List PathPart → ℕ → Data → Result (Term × ℕ) TextFault
term_of zones path tests d = term_in path d >>= λ term. known_term zones path term >>= λ _. counted
    path tests >>= λ n. Ok (term, n)

-- the term in a `not`
unfoldable pub term_at : List Zone → List PathPart → ℕ → Data → Result (Term × ℕ) TextFault
term_at zones path tests d = single_in term_keys path d >>= λ _. term_of zones path tests d

-- a `not` counts before the term in it
unfoldable pub atom_of : List Zone → List PathPart → ℕ → Data → Option Data
    → Result (Atom × ℕ) TextFault
atom_of zones path tests d None = term_of zones path tests d >>= λ r. Ok (atoms.Is r.0, r.1)
atom_of zones path tests d (Some inner) =
    counted path tests >>= λ n. term_at zones (at_key path member_names.Not) n inner >>= λ r. Ok
    (atoms.Not r.0, r.1)

-- an atom, with the count of matches and atoms after it
unfoldable pub atom_at : List Zone → List PathPart → ℕ → Data → Result (Atom × ℕ) TextFault
atom_at zones path tests d = single_in atom_keys path d >>= λ _. atom_of zones path tests d
    (value_of member_names.Not d)

-- the items of an array, each read at its path from `index` on, given what was seen before it
unfoldable pub each_at : {X S : Type 0} → (List PathPart → S → Data → Result (X × S) TextFault)
    → List PathPart → ℕ → S → Items → Result (List X × S) TextFault
each_at read path index seen no_items = Ok ([], seen)
each_at read path index seen (item d rest) =
    read (at_item path index) seen d >>= λ first. each_at read path (index + 1) first.1 rest >>=
    λ others. Ok (first.0 ∷ others.0, others.1)

-- an array that is not empty
abbrev pub items_in : List PathPart → Data → Result Items TextFault
items_in path d = ok_or (as_array d) (faults.Form path) >>= λ items. if is_empty items then
    Err (faults.Form path) else Ok items

-- an array that is not empty, each item read given the count of matches and atoms before it
abbrev pub row_at : {X : Type 0} → (List PathPart → ℕ → Data → Result (X × ℕ) TextFault)
    → List PathPart → ℕ → Data → Result (List X × ℕ) TextFault
row_at read path tests d = items_in path d >>= λ items. each_at read path 0 tests items

unfoldable pub all_of_at : List Zone → List PathPart → ℕ → Data → Result (List Match × ℕ) TextFault
all_of_at zones = row_at (match_at zones)

unfoldable pub any_of_at : List Zone → List PathPart → ℕ → Data
    → Result (List (List Match) × ℕ) TextFault
any_of_at zones = row_at (all_of_at zones)

unfoldable pub target_at : List Zone → List PathPart → ℕ → Items
    → Result (List (List (List Match)) × ℕ) TextFault
target_at zones path tests items = each_at (any_of_at zones) path 0 tests items

unfoldable pub when_at : List Zone → List PathPart → ℕ → Items → Result (List Atom × ℕ) TextFault
when_at zones path tests items = each_at (atom_at zones) path 0 tests items

-- what was read so far: the names of sets, policies and rules, and the counts of sets and policies,
-- of rules, and of matches and atoms
pub record Seen : Type 0 where
  pub names : List (List ℕ)
  pub nodes : ℕ
  pub rules : ℕ
  pub tests : ℕ

-- one more name, which was not seen before; the path is its own
abbrev pub fresh : List PathPart → List ℕ → List (List ℕ) → Result (List (List ℕ)) TextFault
fresh path name names = if list_any (same_name name) names then Err (faults.NameTwice path name)
    else Ok (names ++ name ∷ [])

abbrev pub rule_keys : List MemberName
rule_keys = member_names.Rule ∷ member_names.Effect ∷ member_names.Target ∷ member_names.When ∷ []

unfoldable pub rule_at : List Zone → List PathPart → Seen → Data
    → Result (RuleData × Seen) TextFault
rule_at zones path seen d =
    object_in rule_keys path d >>= λ _. name_in member_names.Rule path d >>= λ name. effect_in path
    d >>= λ effect.
    optional_array_in member_names.Target path d >>= λ target. optional_array_in member_names.When
    path d >>= λ when.
    fresh (at_key path member_names.Rule) name seen.names >>= λ names. within path RULE_LIMIT
    seen.rules >>= λ rules.
    target_at zones (at_key path member_names.Target) seen.tests target >>= λ t. when_at zones
    (at_key path member_names.When) t.1 when >>= λ w.
    Ok (
      record { name = name; effect = effect; target = t.0; when = w.0 },
      record {
        names = names;
        nodes = seen.nodes;
        rules = rules;
        tests = w.1;
      },
    )

abbrev pub set_keys : List MemberName
set_keys = member_names.Set ∷ member_names.Combine ∷ member_names.Target ∷ member_names.Of ∷ []

abbrev pub policy_keys : List MemberName
policy_keys = member_names.Policy ∷ member_names.Combine ∷ member_names.Target ∷ member_names.Rules
    ∷ []

-- a set or a policy without its children: its head, what was seen up to its target's end, and the
-- array of its children
unfoldable pub head_at : List Zone → List MemberName → MemberName → MemberName → List PathPart
    → Seen → Data → Result (Head × (Seen × Items)) TextFault
head_at zones listed name_key children path seen d =
    object_in listed path d >>= λ _. name_in name_key path d >>= λ name. algorithm_in path d >>=
    λ combine.
    optional_array_in member_names.Target path d >>= λ target. array_in children path d >>= λ items.
    fresh (at_key path name_key) name seen.names >>= λ names. within path NODE_LIMIT seen.nodes >>=
    λ nodes.
    target_at zones (at_key path member_names.Target) seen.tests target >>= λ t.
    Ok (
      record {
        name = name;
        combine = combine;
        target = t.0;
      },
      (
        record {
          names = names;
          nodes = nodes;
          rules = seen.rules;
          tests = t.1;
        },
        items,
      ),
    )

unfoldable pub policy_at : List Zone → List PathPart → Seen → Data
    → Result (NodeData × Seen) TextFault
policy_at zones path seen d =
    head_at zones policy_keys member_names.Policy member_names.Rules path seen d >>= λ h.
    each_at (rule_at zones) (at_key path member_names.Rules) 0 h.1.0 h.1.1 >>= λ r. Ok
    (policy h.0 r.0, r.1)

-- a set, whose children are read by `read`
unfoldable pub set_at : (List PathPart → Seen → Data → Result (NodeData × Seen) TextFault)
    → List Zone → List PathPart → Seen → Data → Result (NodeData × Seen) TextFault
set_at read zones path seen d =
    head_at zones set_keys member_names.Set member_names.Of path seen d >>= λ h.
    each_at read (at_key path member_names.Of) 0 h.1.0 h.1.1 >>= λ r. Ok
    (set h.0 (children_of r.0), r.1)

-- a set or a policy with at most this many levels; an object with the key `set` is a set
unfoldable pub node_at : List Zone → ℕ → List PathPart → Seen → Data
    → Result (NodeData × Seen) TextFault
node_at zones zero path seen d = Err (faults.TooDeep path)
node_at zones (suc levels) path seen d =
    if has_key member_names.Set d then set_at (node_at zones levels) zones path seen d
    else policy_at zones path seen d

abbrev pub zone_keys : List MemberName
zone_keys = member_names.Zone ∷ member_names.Shape ∷ []

-- the text under a key
abbrev pub text_in : MemberName → List PathPart → Data → Result (List ℕ) TextFault
text_in key path d = ok_or (option_and_then as_str (value_of key d)) (faults.Form (at_key path key))

-- the shape of the zone at the path
abbrev pub shape_in : List PathPart → List ℕ → List ℕ → Result (List Point) TextFault
shape_in path name text = zone_fault (shape_of text)
  where
    zone_fault : Result (List Point) WktFault → Result (List Point) TextFault
    zone_fault (Ok corners) = Ok corners
    zone_fault (Err fault) = Err (faults.BadZone (at_key path member_names.Shape) name fault)

-- no zone has the name yet; the path is the name's
abbrev pub unseen : List PathPart → List ℕ → List Zone → Result (Unit {0}) TextFault
unseen path name zones =
    if list_any (λ z. same_name name z.name) zones then Err (faults.NameTwice path name) else Ok tt

-- the zones with the one at the path, whose name is new
unfoldable pub with_zone : List PathPart → List ℕ → List Point → List Zone
    → Result (List Zone) TextFault
with_zone path name shape zones =
    unseen (at_key path member_names.Zone) name zones >>= λ _. within path ZONE_LIMIT (length zones)
    >>= λ _. Ok (zones ++ record { name = name; shape = shape } ∷ [])

-- a zone, added to those before it
unfoldable pub zone_at : List PathPart → List Zone → Data → Result (List Zone) TextFault
zone_at path zones d =
    object_in zone_keys path d >>= λ _. name_in member_names.Zone path d >>= λ name. text_in
    member_names.Shape path d >>= λ text.
    shape_in path name text >>= λ shape. with_zone path name shape zones

unfoldable pub zones_at : ℕ → List Zone → Items → Result (List Zone) TextFault
zones_at index zones no_items = Ok zones
zones_at index zones (item d rest) =
    zone_at (at_item (path_parts.Member member_names.Zones ∷ []) index) zones d >>= λ more. zones_at
    (index + 1) more rest

abbrev pub document_keys : List MemberName
document_keys = member_names.Zones ∷ member_names.Root ∷ []

abbrev pub nothing_seen : Seen
nothing_seen = record { names = []; nodes = 0; rules = 0; tests = 0 }

-- the document that a JSON value spells, or its first fault
unfoldable pub document_in : Data → Result DocumentData TextFault
document_in d =
    object_in document_keys [] d >>= λ _. optional_array_in member_names.Zones [] d >>= λ items.
    ok_or (value_of member_names.Root d) (faults.Form (at_key [] member_names.Root)) >>= λ root.
    zones_at 0 [] items >>= λ zones.
    node_at zones DEPTH_LIMIT (at_key [] member_names.Root) nothing_seen root >>= λ r. Ok
    (record { zones = zones; root = r.0 })

-- the document that a text spells, as `serde_json` reads the text, or its first fault
unfoldable pub document_of : List ℕ → Result DocumentData TextFault
document_of text = ok_or (read text) faults.NotJson >>= document_in
