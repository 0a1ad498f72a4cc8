-- The printed heads of sets and policies are read as themselves.
use Rattle.std.proofs.Common.{◌≡◌, ℕ, ◌+◌, ◌<◌, ◌≤◌, false, IsTrue, List, [], ◌∷◌, ◌++◌, length, Ok, refl}
use Rattle.std.specs.List.{list_any, list_all}
use Rattle.serde_json.specs.Data.{Data, string, array, object, Items, no_items, item, no_members}
use Rattle.features.specs.Names as spelling
use Rattle.features.specs.Equality.{same_name}
use Rattle.policy_documents.specs.Documents.{Head, is_target, target_matches}
use Rattle.policy_text.specs.Reading.{at_key, has_key, object_in, optional_array_in, set_keys, policy_keys, head_at, Seen}
use Rattle.policy_text.specs.Printed.{algorithm_text, keyed, keyed_items, target_items}
use Rattle.policy_text.specs.declared.paths.MemberName.TheVariants as member_names
use Rattle.policy_text.specs.declared.paths.PathPart.{PathPart}
use Rattle.policy_documents.specs.declared.zones.Zone.{Zone}
use Rattle.policy_text.proofs.PrintedSteps.{name_read, algorithm_read, fresh_read, within_room, seen_of}
use Rattle.policy_text.proofs.PrintedMatches.{is_readable}
use Rattle.policy_text.proofs.PrintedTargets.{target_read}

-- ---- the objects of sets and policies, with and without a target

abbrev pub set_object : List ℕ → Items → List ℕ → Items → Data
set_object combine children name target = object (keyed member_names.Combine (string combine) (keyed member_names.Of (array children) (keyed member_names.Set (string name) (keyed_items member_names.Target target no_members))))

abbrev pub policy_object : List ℕ → List ℕ → Items → Items → Data
policy_object combine name rules target = object (keyed member_names.Combine (string combine) (keyed member_names.Policy (string name) (keyed member_names.Rules (array rules) (keyed_items member_names.Target target no_members))))

module _ (path : List PathPart) (combine name : List ℕ) (children : Items) where
  set_object_read : (target : Items) → object_in set_keys path (set_object combine children name target) ≡ Ok tt
  set_object_read no_items = refl
  set_object_read (item d ds) = refl

  set_target : (target : Items) → optional_array_in member_names.Target path (set_object combine children name target) ≡ Ok target
  unfolding optional_array_in
  set_target no_items = refl
  set_target (item d ds) = refl

  policy_object_read : (target : Items) → object_in policy_keys path (policy_object combine name children target) ≡ Ok tt
  policy_object_read no_items = refl
  policy_object_read (item d ds) = refl

  policy_target : (target : Items) → optional_array_in member_names.Target path (policy_object combine name children target) ≡ Ok target
  unfolding optional_array_in
  policy_target no_items = refl
  policy_target (item d ds) = refl

-- the object of a policy does not have the key `set`
pub policy_kind : (combine name : List ℕ) (rules target : Items) → false ≡ has_key member_names.Set (policy_object combine name rules target)
policy_kind combine name rules no_items = refl
policy_kind combine name rules (item d ds) = refl

-- ---- heads

-- what a head needs to be read after `seen`
pub record IsHeadHere (zones : List Zone) (seen : Seen) (head : Head) : Type 0 where
  pub spelled : IsTrue (spelling.is_name head.name)
  pub target : IsTrue (is_target head.target)
  pub matches : IsTrue (list_all (is_readable zones) (target_matches head.target))
  pub fresh : list_any (same_name head.name) seen.names ≡ false
  pub nodes : seen.nodes < 512
  pub tests : seen.tests + length (target_matches head.target) ≤ 4096

-- what was seen after a head
abbrev pub after_head : Seen → Head → Seen
after_head seen head = seen_of (seen.names ++ head.name ∷ []) (seen.nodes + 1) seen.rules (seen.tests + length (target_matches head.target))

module _ (zones : List Zone) (path : List PathPart) (seen : Seen) (head : Head) (children : Items) where
  pub set_head_read : IsHeadHere zones seen head →
      head_at zones set_keys member_names.Set member_names.Of path seen (set_object (algorithm_text head.combine) children head.name (target_items head.target)) ≡ Ok (head, (after_head seen head, children))
  unfolding head_at
  set_head_read h =
      let combine = algorithm_text head.combine in
      rw (
        set_object_read path combine head.name children (target_items head.target),
        name_read head.name h.spelled,
        algorithm_read head.combine,
        set_target path combine head.name children (target_items head.target),
        fresh_read (at_key path member_names.Set) head.name seen.names h.fresh,
        within_room path 512 seen.nodes h.nodes,
        target_read zones (at_key path member_names.Target) seen.tests head.target h.target h.matches h.tests,
      )
      refl

  pub policy_head_read : IsHeadHere zones seen head →
      head_at zones policy_keys member_names.Policy member_names.Rules path seen (policy_object (algorithm_text head.combine) head.name children (target_items head.target)) ≡ Ok (head, (after_head seen head, children))
  unfolding head_at
  policy_head_read h =
      let combine = algorithm_text head.combine in
      rw (
        policy_object_read path combine head.name children (target_items head.target),
        name_read head.name h.spelled,
        algorithm_read head.combine,
        policy_target path combine head.name children (target_items head.target),
        fresh_read (at_key path member_names.Policy) head.name seen.names h.fresh,
        within_room path 512 seen.nodes h.nodes,
        target_read zones (at_key path member_names.Target) seen.tests head.target h.target h.matches h.tests,
      )
      refl
