-- What contracts see of a document: plain data.
use Rattle.std.specs.Prelude.{ℕ, zero, suc, ◌+◌, ◌≤◌, Bool, true, false, not, ◌&&◌, All, List, [], ◌∷◌, ◌++◌, length, map, max, slice_get, Option, None, option_map, Result, Ok, Err, find, IsTrue}
use Rattle.std.specs.List.{list_all, list_any, flat_map}
use Rattle.plane.specs.Canonical.{IsCanonical}
use Rattle.features.specs.Names as spelling
use Rattle.features.specs.Equality.{same_name}
use Rattle.policy_documents.specs.declared.algorithms.Algorithm.{Algorithm}
use Rattle.policy_documents.specs.declared.algorithms.Effect.{Effect}
use Rattle.policy_documents.specs.declared.matches.Match.{Match}
use Rattle.policy_documents.specs.declared.matches.Match.TheVariants as matches
use Rattle.policy_documents.specs.declared.matches.Term.{Term}
use Rattle.policy_documents.specs.declared.matches.Term.TheVariants as terms
use Rattle.policy_documents.specs.declared.matches.Atom.{Atom}
use Rattle.policy_documents.specs.declared.matches.Atom.TheVariants as atoms
use Rattle.policy_documents.specs.declared.documents.TheConstants.{DEPTH_LIMIT, NODE_LIMIT, RULE_LIMIT, TEST_LIMIT, ZONE_LIMIT}
use Rattle.policy_documents.specs.declared.zones.Zone.{Zone}
use Rattle.plane.specs.declared.point.Point.{Point}

pub record RuleData : Type 0 where
  pub name : List ℕ
  pub effect : Effect
  pub target : List (List (List Match))
  pub when : List Atom

-- what sets and policies have in common
pub record Head : Type 0 where
  pub name : List ℕ
  pub combine : Algorithm
  pub target : List (List (List Match))

mutual
  pub data NodeData : Type 0 where
    set : Head → Children → NodeData
    policy : Head → List RuleData → NodeData

  pub data Children : Type 0 where
    no_children : Children
    child : NodeData → Children → Children

abbrev pub children_of : List NodeData → Children
children_of [] = no_children
children_of (n ∷ ns) = child n (children_of ns)

pub record DocumentData : Type 0 where
  pub zones : List Zone
  pub root : NodeData

-- the shape of the zone with this name
abbrev pub zone_shape : List ℕ → List Zone → Option (List Point)
zone_shape name zones = option_map (λ z. z.shape) (find (λ z. same_name name z.name) zones)

-- the rules below a node, in document order
abbrev mutual
  pub rules_of : NodeData → List RuleData
  rules_of (set head children) = rules_of_all children
  rules_of (policy head rules) = rules

  pub rules_of_all : Children → List RuleData
  rules_of_all no_children = []
  rules_of_all (child node rest) = rules_of node ++ rules_of_all rest

-- the name of the rule at this index, or the index minus the number of rules
abbrev pub found_rule : ℕ → List RuleData → Result (List ℕ) ℕ
found_rule index [] = Err index
found_rule zero (rule ∷ rules) = Ok rule.name
found_rule (suc index) (rule ∷ rules) = found_rule index rules

-- the name of the rule of this number, counted from 1 in document order
abbrev pub rule_named : ℕ → NodeData → Option (List ℕ)
rule_named zero root = None
rule_named (suc index) root = option_map (λ rule. rule.name) (slice_get (rules_of root) index)

-- how many sets and policies there are
abbrev mutual
  pub node_count : NodeData → ℕ
  node_count (set head children) = suc (node_count_of_all children)
  node_count (policy head rules) = 1

  pub node_count_of_all : Children → ℕ
  node_count_of_all no_children = 0
  node_count_of_all (child node rest) = node_count node + node_count_of_all rest

-- how deep sets and policies nest
abbrev mutual
  pub depth_of : NodeData → ℕ
  depth_of (set head children) = suc (depth_of_all children)
  depth_of (policy head rules) = 1

  pub depth_of_all : Children → ℕ
  depth_of_all no_children = 0
  depth_of_all (child node rest) = max (depth_of node) (depth_of_all rest)

-- the names of sets, policies and rules, in document order
abbrev mutual
  pub names_of : NodeData → List (List ℕ)
  names_of (set head children) = head.name ∷ names_of_all children
  names_of (policy head rules) = head.name ∷ map (λ rule. rule.name) rules

  pub names_of_all : Children → List (List ℕ)
  names_of_all no_children = []
  names_of_all (child node rest) = names_of node ++ names_of_all rest

-- the matches of a target
abbrev pub target_matches : List (List (List Match)) → List Match
target_matches target = flat_map (flat_map (λ matches. matches)) target

-- the term of an atom
abbrev pub atom_term : Atom → Term
atom_term (atoms.Is term) = term
atom_term (atoms.Not term) = term

-- the match of a term, if it has one
abbrev pub term_matches : Term → List Match
term_matches (terms.Match m) = m ∷ []
term_matches terms.Own = []

-- the matches of a rule
abbrev pub rule_matches : RuleData → List Match
rule_matches rule = target_matches rule.target ++ flat_map (λ atom. term_matches (atom_term atom))
    rule.when

-- the matches below a node
abbrev mutual
  pub matches_of : NodeData → List Match
  matches_of (set head children) = target_matches head.target ++ matches_of_all children
  matches_of (policy head rules) = target_matches head.target ++ flat_map rule_matches rules

  pub matches_of_all : Children → List Match
  matches_of_all no_children = []
  matches_of_all (child node rest) = matches_of node ++ matches_of_all rest

-- the targets of sets, policies and rules, in document order
abbrev mutual
  pub targets_of : NodeData → List (List (List (List Match)))
  targets_of (set head children) = head.target ∷ targets_of_all children
  targets_of (policy head rules) = head.target ∷ map (λ rule. rule.target) rules

  pub targets_of_all : Children → List (List (List (List Match)))
  targets_of_all no_children = []
  targets_of_all (child node rest) = targets_of node ++ targets_of_all rest

-- the list is not empty
abbrev pub is_filled : {X : Type 0} → List X → Bool
is_filled [] = false
is_filled (x ∷ xs) = true

-- each part of a target has an alternative, and each of these a match
abbrev pub is_target : List (List (List Match)) → Bool
is_target target = list_all (λ part. is_filled part && list_all is_filled part) target

-- how many matches and atoms an atom counts as: two if it is negated
abbrev pub atom_size : Atom → ℕ
atom_size (atoms.Is term) = 1
atom_size (atoms.Not term) = 2

abbrev pub atom_sizes : List Atom → ℕ
atom_sizes [] = 0
atom_sizes (atom ∷ rest) = atom_size atom + atom_sizes rest

abbrev pub rule_sizes : List RuleData → ℕ
rule_sizes [] = 0
rule_sizes (rule ∷ rest) = length (target_matches rule.target) + atom_sizes rule.when + rule_sizes
    rest

-- how many matches and atoms there are below a node and in its target
abbrev mutual
  pub test_count : NodeData → ℕ
  test_count (set head children) = length (target_matches head.target) + test_count_of_all children
  test_count (policy head rules) = length (target_matches head.target) + rule_sizes rules

  pub test_count_of_all : Children → ℕ
  test_count_of_all no_children = 0
  test_count_of_all (child node rest) = test_count node + test_count_of_all rest

-- no two names are equal
abbrev pub are_distinct : List (List ℕ) → Bool
are_distinct [] = true
are_distinct (name ∷ rest) = not (list_any (same_name name) rest) && are_distinct rest

-- the zone that a match names, if it names one, is among these
abbrev pub is_zone_known : List Zone → Match → Bool
is_zone_known zones (matches.Zone name) = list_any (λ z. same_name name z.name) zones
is_zone_known zones (matches.Role name) = true
is_zone_known zones (matches.Office name) = true
is_zone_known zones (matches.Class name) = true
is_zone_known zones (matches.Owner name) = true
is_zone_known zones (matches.Action action) = true

-- the name in a match, if it has one, is a valid name
abbrev pub is_match_spelled : Match → Bool
is_match_spelled (matches.Role name) = spelling.is_name name
is_match_spelled (matches.Office name) = spelling.is_name name
is_match_spelled (matches.Class name) = spelling.is_name name
is_match_spelled (matches.Owner name) = spelling.is_name name
is_match_spelled (matches.Zone name) = spelling.is_name name
is_match_spelled (matches.Action action) = true

-- the zone's name is valid, and its shape is canonical
pub record IsZone (z : Zone) : Type 0 where
  pub name : IsTrue (spelling.is_name z.name)
  pub shape : IsCanonical z.shape

-- the invariant of documents: limits, distinct names, zones that exist, and only names and shapes
-- that a text can spell
pub record IsDocument (d : DocumentData) : Type 0 where
  pub depth : depth_of d.root ≤ DEPTH_LIMIT
  pub rules : length (rules_of d.root) ≤ RULE_LIMIT
  pub nodes : node_count d.root ≤ NODE_LIMIT
  pub zones : length d.zones ≤ ZONE_LIMIT
  pub tests : test_count d.root ≤ TEST_LIMIT
  pub names : IsTrue (are_distinct (names_of d.root))
  pub zone_names : IsTrue (are_distinct (map (λ z. z.name) d.zones))
  pub zones_known : IsTrue (list_all (is_zone_known d.zones) (matches_of d.root))
  pub names_spelled : IsTrue (list_all spelling.is_name (names_of d.root))
  pub zones_spelled : All IsZone d.zones
  pub matches_spelled : IsTrue (list_all is_match_spelled (matches_of d.root))
  pub targets_filled : IsTrue (list_all is_target (targets_of d.root))
