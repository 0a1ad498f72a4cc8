-- Printed targets and conditions are read as themselves.
use Rattle.std.proofs.Common.{◌≡◌, ℕ, ◌+◌, ◌≤◌, Bool, ◌&&◌, IsTrue, List, length, flat_map, Ok, sym, ap, ◌∙◌, arith}
use Rattle.std.specs.List.{list_all}
use Rattle.std.proofs.lemmas.Bool.{and_parts, and_from}
use Rattle.policy_documents.specs.Documents.{is_filled, is_target, target_matches, atom_term, term_matches, atom_size, atom_sizes}
use Rattle.policy_text.specs.Reading.{match_at, atom_at, all_of_at, any_of_at, target_at, when_at}
use Rattle.policy_text.specs.Printed.{match_data, atom_data, all_of_data, any_of_data, target_items, when_items}
use Rattle.policy_text.specs.declared.paths.PathPart.{PathPart}
use Rattle.policy_documents.specs.declared.zones.Zone.{Zone}
use Rattle.policy_documents.specs.declared.matches.Match.{Match}
use Rattle.policy_documents.specs.declared.matches.Atom.{Atom}
use Rattle.policy_text.proofs.PrintedLists.{sizes-ones, sizes-flat_map, sizes-atoms, list_all-flat_map, list_all_both, items_read, each_read}
use Rattle.policy_text.proofs.PrintedMatches.{is_readable, is_atom_readable, match_read, atom_read}

module _ (zones : List Zone) where
  -- ---- conditions

  pub when_read : (path : List PathPart) (tests : ℕ) (conditions : List Atom) → IsTrue (list_all (is_readable zones) (flat_map (λ atom. term_matches (atom_term atom)) conditions)) →
      tests + atom_sizes conditions ≤ 4096 → when_at zones path tests (when_items conditions) ≡ Ok (conditions, tests + atom_sizes conditions)
  unfolding when_at
  when_read path tests conditions h room =
      let all = sym (list_all-flat_map (is_readable zones) (λ atom. term_matches (atom_term atom)) conditions) ∙ h in
      let e = sizes-atoms conditions in
      each_read (atom_at zones) atom_data atom_size (is_atom_readable zones) (atom_read zones) path 0 tests conditions all (omega arith) ∙ ap (λ n. Ok (conditions, tests + n)) (sym e)

  -- ---- targets

  abbrev is_all_readable : List Match → Bool
  is_all_readable all = is_filled all && list_all (is_readable zones) all

  abbrev is_any_readable : List (List Match) → Bool
  is_any_readable alternatives = is_filled alternatives && list_all is_all_readable alternatives

  all_of_read : (path : List PathPart) (tests : ℕ) (all : List Match) → IsTrue (is_all_readable all) → tests + length all ≤ 4096 →
      all_of_at zones path tests (all_of_data all) ≡ Ok (all, tests + length all)
  unfolding all_of_at
  all_of_read path tests all h room =
      let parts = and_parts (is_filled all) (list_all (is_readable zones) all) h in
      let e = sizes-ones all in
      rw (items_read match_data path all parts.0)
      (each_read (match_at zones) match_data (λ _. 1) (is_readable zones) (match_read zones) path 0 tests all parts.1 (omega arith) ∙ ap (λ n. Ok (all, tests + n)) (sym e))

  abbrev any_size : List (List Match) → ℕ
  any_size alternatives = length (flat_map (λ ms. ms) alternatives)

  any_of_read : (path : List PathPart) (tests : ℕ) (alternatives : List (List Match)) → IsTrue (is_any_readable alternatives) → tests + any_size alternatives ≤ 4096 →
      any_of_at zones path tests (any_of_data alternatives) ≡ Ok (alternatives, tests + any_size alternatives)
  unfolding any_of_at
  any_of_read path tests alternatives h room =
      let parts = and_parts (is_filled alternatives) (list_all is_all_readable alternatives) h in
      let e = sizes-flat_map (λ (ms : List Match). ms) alternatives in
      rw (items_read all_of_data path alternatives parts.0)
      (each_read (all_of_at zones) all_of_data length is_all_readable all_of_read path 0 tests alternatives parts.1 (omega arith) ∙ ap (λ n. Ok (alternatives, tests + n)) (sym e))

  all_filled : (all : List Match) → IsTrue (is_filled all) → IsTrue (list_all (is_readable zones) all) → IsTrue (is_all_readable all)
  all_filled all h k = and_from (is_filled all) (list_all (is_readable zones) all) h k

  any_filled : (alternatives : List (List Match)) → IsTrue (is_filled alternatives && list_all is_filled alternatives) →
      IsTrue (list_all (is_readable zones) (flat_map (λ ms. ms) alternatives)) → IsTrue (is_any_readable alternatives)
  any_filled alternatives h k =
      let parts = and_parts (is_filled alternatives) (list_all is_filled alternatives) h in
      let each = sym (list_all-flat_map (is_readable zones) (λ (ms : List Match). ms) alternatives) ∙ k in
      and_from (is_filled alternatives) (list_all is_all_readable alternatives) parts.0
      (list_all_both is_filled (list_all (is_readable zones)) is_all_readable all_filled alternatives parts.1 each)

  pub target_read : (path : List PathPart) (tests : ℕ) (target : List (List (List Match))) → IsTrue (is_target target) → IsTrue (list_all (is_readable zones) (target_matches target)) →
      tests + length (target_matches target) ≤ 4096 → target_at zones path tests (target_items target) ≡ Ok (target, tests + length (target_matches target))
  unfolding target_at
  target_read path tests target h k room =
      let each = sym (list_all-flat_map (is_readable zones) (flat_map (λ (ms : List Match). ms)) target) ∙ k in
      let all = list_all_both (λ part. is_filled part && list_all is_filled part) (λ part. list_all (is_readable zones) (flat_map (λ (ms : List Match). ms) part)) is_any_readable any_filled target h each in
      let e = sizes-flat_map (flat_map (λ (ms : List Match). ms)) target in
      each_read (any_of_at zones) any_of_data any_size is_any_readable any_of_read path 0 tests target all (omega arith) ∙ ap (λ n. Ok (target, tests + n)) (sym e)
