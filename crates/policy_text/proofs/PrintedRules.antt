-- Printed rules are read as themselves.
use Rattle.std.proofs.Common.{◌≡◌, ℕ, ◌+◌, ◌<◌, ◌≤◌, false, IsTrue, List, [], ◌∷◌, ◌++◌, length, map, flat_map, Ok, refl, sym, ap, ◌∙◌, arith, append_assoc, append-nil}
use Rattle.std.specs.List.{list_any, list_all}
use Rattle.std.proofs.lemmas.Bool.{and_parts}
use Rattle.std.proofs.lemmas.List.Folds.{list_all-append}
use Rattle.serde_json.specs.Data.{Data, string, object, Items, no_items, item, no_members}
use Rattle.serde_json.specs.View.{items_of}
use Rattle.features.specs.Names as spelling
use Rattle.features.specs.Equality.{same_name}
use Rattle.policy_documents.specs.Documents.{RuleData, is_target, are_distinct, target_matches, atom_term, term_matches, atom_sizes, rule_sizes, rule_matches}
use Rattle.policy_text.specs.Reading.{at_key, at_item, object_in, optional_array_in, rule_keys, each_at, rule_at, Seen}
use Rattle.policy_text.proofs.SeenAfter.{after_rules}
use Rattle.policy_text.specs.Printed.{effect_text, keyed, keyed_items, target_items, when_items, rule_data}
use Rattle.policy_text.specs.declared.paths.MemberName.TheVariants as member_names
use Rattle.policy_text.specs.declared.paths.PathPart.{PathPart}
use Rattle.policy_documents.specs.declared.zones.Zone.{Zone}
use Rattle.policy_text.proofs.PrintedSteps.{name_read, effect_read, fresh_read, within_room, distinct_behind, seen_of, seen_same}
use Rattle.policy_text.proofs.PrintedMatches.{is_readable}
use Rattle.policy_text.proofs.PrintedTargets.{target_read, when_read}

-- ---- the object of a rule, with and without a target and conditions

abbrev rule_object : List ℕ → List ℕ → Items → Items → Data
rule_object effect name target when = object (keyed member_names.Effect (string effect) (keyed member_names.Rule (string name) (keyed_items member_names.Target target (keyed_items member_names.When when no_members))))

object_read : (path : List PathPart) (effect name : List ℕ) (target when : Items) → object_in rule_keys path (rule_object effect name target when) ≡ Ok tt
object_read path effect name no_items no_items = refl
object_read path effect name no_items (item d ds) = refl
object_read path effect name (item d ds) no_items = refl
object_read path effect name (item d ds) (item e es) = refl

target_found : (path : List PathPart) (effect name : List ℕ) (target when : Items) → optional_array_in member_names.Target path (rule_object effect name target when) ≡ Ok target
unfolding optional_array_in
target_found path effect name no_items no_items = refl
target_found path effect name no_items (item d ds) = refl
target_found path effect name (item d ds) no_items = refl
target_found path effect name (item d ds) (item e es) = refl

when_found : (path : List PathPart) (effect name : List ℕ) (target when : Items) → optional_array_in member_names.When path (rule_object effect name target when) ≡ Ok when
unfolding optional_array_in
when_found path effect name no_items no_items = refl
when_found path effect name no_items (item d ds) = refl
when_found path effect name (item d ds) no_items = refl
when_found path effect name (item d ds) (item e es) = refl

-- ---- rules

-- what a rule needs to be read after `seen`
record IsRuleHere (zones : List Zone) (seen : Seen) (rule : RuleData) : Type 0 where
  spelled : IsTrue (spelling.is_name rule.name)
  target : IsTrue (is_target rule.target)
  matches : IsTrue (list_all (is_readable zones) (rule_matches rule))
  fresh : list_any (same_name rule.name) seen.names ≡ false
  rules : seen.rules < 512
  tests : seen.tests + (length (target_matches rule.target) + atom_sizes rule.when) ≤ 4096

-- what was seen after one rule
abbrev after_rule : Seen → RuleData → Seen
after_rule seen rule = seen_of (seen.names ++ rule.name ∷ []) seen.nodes (seen.rules + 1) (seen.tests + (length (target_matches rule.target) + atom_sizes rule.when))

module _ (zones : List Zone) where
  rule_read : (path : List PathPart) (seen : Seen) (rule : RuleData) → IsRuleHere zones seen rule → rule_at zones path seen (rule_data rule) ≡ Ok (rule, after_rule seen rule)
  unfolding rule_at
  rule_read path seen rule h =
      let target = target_items rule.target in
      let when = when_items rule.when in
      let size = length (target_matches rule.target) in
      let parts = and_parts (list_all (is_readable zones) (target_matches rule.target)) (list_all (is_readable zones) (flat_map (λ atom. term_matches (atom_term atom)) rule.when))
      (sym (list_all-append (is_readable zones) (target_matches rule.target) (flat_map (λ atom. term_matches (atom_term atom)) rule.when)) ∙ h.matches) in
      let room : seen.tests + size ≤ 4096 = omega arith in
      let more : seen.tests + size + atom_sizes rule.when ≤ 4096 = omega arith in
      let e : seen.tests + size + atom_sizes rule.when ≡ seen.tests + (size + atom_sizes rule.when) = omega arith in
      rw (
        object_read path (effect_text rule.effect) rule.name target when,
        name_read rule.name h.spelled,
        effect_read rule.effect,
        target_found path (effect_text rule.effect) rule.name target when,
        when_found path (effect_text rule.effect) rule.name target when,
        fresh_read (at_key path member_names.Rule) rule.name seen.names h.fresh,
        within_room path 512 seen.rules h.rules,
        target_read zones (at_key path member_names.Target) seen.tests rule.target h.target parts.0 room,
        when_read zones (at_key path member_names.When) (seen.tests + size) rule.when parts.1 more,
      )
      (ap (λ n. Ok (rule, seen_of (seen.names ++ rule.name ∷ []) seen.nodes (seen.rules + 1) n)) e)

  -- the rules of a policy, one by one
  pub rules_read : (path : List PathPart) (index : ℕ) (seen : Seen) (rules : List RuleData) → IsTrue (list_all spelling.is_name (map (λ rule. rule.name) rules)) →
      IsTrue (list_all is_target (map (λ rule. rule.target) rules)) → IsTrue (list_all (is_readable zones) (flat_map rule_matches rules)) →
      IsTrue (are_distinct (seen.names ++ map (λ rule. rule.name) rules)) → seen.rules + length rules ≤ 512 → seen.tests + rule_sizes rules ≤ 4096 →
      each_at (rule_at zones) path index seen (items_of (map rule_data rules)) ≡ Ok (rules, after_rules seen rules)
  unfolding each_at
  rules_read path index seen [] spelled targets matches distinct room more =
      ap (λ s. Ok ([], s)) (seen_same (sym (append-nil seen.names)) refl (let e : seen.rules ≡ seen.rules + 0 = omega arith in e) (let e : seen.tests ≡ seen.tests + 0 = omega arith in e))
  rules_read path index seen (rule ∷ rest) spelled targets matches distinct room more =
      let names = map (λ (r : RuleData). r.name) rest in
      let name_parts = and_parts (spelling.is_name rule.name) (list_all spelling.is_name names) spelled in
      let target_parts = and_parts (is_target rule.target) (list_all is_target (map (λ (r : RuleData). r.target) rest)) targets in
      let match_parts = and_parts (list_all (is_readable zones) (rule_matches rule)) (list_all (is_readable zones) (flat_map rule_matches rest))
      (sym (list_all-append (is_readable zones) (rule_matches rule) (flat_map rule_matches rest)) ∙ matches) in
      let here : IsRuleHere zones seen rule = record {
        spelled = name_parts.0;
        target = target_parts.0;
        matches = match_parts.0;
        fresh = distinct_behind seen.names rule.name names distinct;
        rules = omega arith;
        tests = omega arith;
      } in
      let next = after_rule seen rule in
      let same : next.names ++ names ≡ seen.names ++ rule.name ∷ names = append_assoc seen.names (rule.name ∷ []) names in
      let behind : each_at (rule_at zones) path (index + 1) next (items_of (map rule_data rest)) ≡ Ok (rest, after_rules next rest) =
      rules_read path (index + 1) next rest name_parts.1 target_parts.1 match_parts.1 (ap are_distinct same ∙ distinct) (omega arith) (omega arith) in
      rw (rule_read (at_item path index) seen rule here, behind)
      (ap (λ s. Ok (rule ∷ rest, s)) (seen_same same refl (omega arith) (omega arith)))
