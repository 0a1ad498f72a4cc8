-- Printed matches and atoms are read as themselves.
use Rattle.std.proofs.Common.{◌≡◌, ℕ, ◌+◌, ◌<◌, ◌≤◌, Bool, true, false, ◌&&◌, IsTrue, List, None, Ok, refl, ap, arith}
use Rattle.std.specs.List.{list_all}
use Rattle.std.proofs.lemmas.Bool.{and_parts}
use Rattle.policy_documents.specs.Documents.{is_zone_known, is_match_spelled, atom_term, term_matches, atom_size}
use Rattle.policy_text.specs.Reading.{at_key, value_of, has_key, single_in, match_keys, term_keys, atom_keys, match_in, match_at, term_in, term_of, term_at, atom_of, atom_at, known_term}
use Rattle.policy_text.specs.Printed.{match_data, term_data, atom_data}
use Rattle.policy_text.specs.declared.paths.MemberName.TheVariants as member_names
use Rattle.policy_text.specs.declared.paths.PathPart.{PathPart}
use Rattle.policy_documents.specs.declared.zones.Zone.{Zone}
use Rattle.policy_documents.specs.declared.matches.Match.{Match}
use Rattle.policy_documents.specs.declared.matches.Match.TheVariants as matches
use Rattle.policy_documents.specs.declared.matches.Term.{Term}
use Rattle.policy_documents.specs.declared.matches.Term.TheVariants as terms
use Rattle.policy_documents.specs.declared.matches.Atom.{Atom}
use Rattle.policy_documents.specs.declared.matches.Atom.TheVariants as atoms
use Rattle.policy_text.proofs.PrintedSteps.{action_read, counted_room, known_read}

-- a match can be read: its zone is known, and its name is a valid one
abbrev pub is_readable : List Zone → Match → Bool
is_readable zones m = is_zone_known zones m && is_match_spelled m

match_in_read : (path : List PathPart) (m : Match) → IsTrue (is_match_spelled m) → match_in path (match_data m) ≡ Ok m
unfolding match_in
match_in_read path (matches.Role name) h = rw h refl
match_in_read path (matches.Office name) h = rw h refl
match_in_read path (matches.Class name) h = rw h refl
match_in_read path (matches.Owner name) h = rw h refl
match_in_read path (matches.Zone name) h = rw h refl
match_in_read path (matches.Action action) h = rw (action_read action) refl

single_match : (path : List PathPart) (m : Match) → single_in match_keys path (match_data m) ≡ Ok tt
single_match path (matches.Role name) = refl
single_match path (matches.Office name) = refl
single_match path (matches.Class name) = refl
single_match path (matches.Owner name) = refl
single_match path (matches.Zone name) = refl
single_match path (matches.Action action) = refl

no_own : (m : Match) → has_key member_names.Own (match_data m) ≡ false
no_own (matches.Role name) = refl
no_own (matches.Office name) = refl
no_own (matches.Class name) = refl
no_own (matches.Owner name) = refl
no_own (matches.Zone name) = refl
no_own (matches.Action action) = refl

single_term : (path : List PathPart) (term : Term) → single_in term_keys path (term_data term) ≡ Ok tt
single_term path (terms.Match (matches.Role name)) = refl
single_term path (terms.Match (matches.Office name)) = refl
single_term path (terms.Match (matches.Class name)) = refl
single_term path (terms.Match (matches.Owner name)) = refl
single_term path (terms.Match (matches.Zone name)) = refl
single_term path (terms.Match (matches.Action action)) = refl
single_term path terms.Own = refl

single_atom : (path : List PathPart) (term : Term) → single_in atom_keys path (term_data term) ≡ Ok tt
single_atom path (terms.Match (matches.Role name)) = refl
single_atom path (terms.Match (matches.Office name)) = refl
single_atom path (terms.Match (matches.Class name)) = refl
single_atom path (terms.Match (matches.Owner name)) = refl
single_atom path (terms.Match (matches.Zone name)) = refl
single_atom path (terms.Match (matches.Action action)) = refl
single_atom path terms.Own = refl

no_not : (term : Term) → value_of member_names.Not (term_data term) ≡ None
no_not (terms.Match (matches.Role name)) = refl
no_not (terms.Match (matches.Office name)) = refl
no_not (terms.Match (matches.Class name)) = refl
no_not (terms.Match (matches.Owner name)) = refl
no_not (terms.Match (matches.Zone name)) = refl
no_not (terms.Match (matches.Action action)) = refl
no_not terms.Own = refl

module _ (zones : List Zone) where
  -- ---- matches and terms

  pub match_read : (path : List PathPart) (tests : ℕ) (m : Match) → IsTrue (is_readable zones m) → tests + 1 ≤ 4096 → match_at zones path tests (match_data m) ≡ Ok (m, tests + 1)
  unfolding match_at
  match_read path tests m h room =
      let parts = and_parts (is_zone_known zones m) (is_match_spelled m) h in
      let lt : tests < 4096 = omega arith in
      rw (single_match path m, match_in_read path m parts.1, known_read zones path m parts.0, counted_room path tests lt) refl

  -- the match of a term, if it has one, can be read
  abbrev pub is_term_readable : Term → Bool
  is_term_readable term = list_all (is_readable zones) (term_matches term)

  term_in_read : (path : List PathPart) (term : Term) → IsTrue (is_term_readable term) → term_in path (term_data term) ≡ Ok term
  unfolding term_in
  term_in_read path (terms.Match m) h =
      let parts = and_parts (is_zone_known zones m) (is_match_spelled m) (and_parts (is_readable zones m) true h).0 in
      rw (no_own m, match_in_read path m parts.1) refl
  term_in_read path terms.Own h = refl

  known_term_read : (path : List PathPart) (term : Term) → IsTrue (is_term_readable term) → known_term zones path term ≡ Ok tt
  known_term_read path (terms.Match m) h = known_read zones path m (and_parts (is_zone_known zones m) (is_match_spelled m) (and_parts (is_readable zones m) true h).0).0
  known_term_read path terms.Own h = refl

  term_of_read : (path : List PathPart) (tests : ℕ) (term : Term) → IsTrue (is_term_readable term) → tests < 4096 → term_of zones path tests (term_data term) ≡ Ok (term, tests + 1)
  unfolding term_of
  term_of_read path tests term h room = rw (term_in_read path term h, known_term_read path term h, counted_room path tests room) refl

  -- ---- atoms

  abbrev pub is_atom_readable : Atom → Bool
  is_atom_readable atom = is_term_readable (atom_term atom)

  pub atom_read : (path : List PathPart) (tests : ℕ) (atom : Atom) → IsTrue (is_atom_readable atom) → tests + atom_size atom ≤ 4096 →
      atom_at zones path tests (atom_data atom) ≡ Ok (atom, tests + atom_size atom)
  unfolding atom_at atom_of term_at
  atom_read path tests (atoms.Is term) h room =
      let lt : tests < 4096 = omega arith in
      rw (single_atom path term, no_not term, term_of_read path tests term h lt) refl
  atom_read path tests (atoms.Not term) h room =
      let lt : tests < 4096 = omega arith in
      let more : tests + 1 < 4096 = omega arith in
      let e : tests + 1 + 1 ≡ tests + 2 = omega arith in
      rw (counted_room path tests lt, single_term (at_key path member_names.Not) term, term_of_read (at_key path member_names.Not) (tests + 1) term h more) (ap (λ n. Ok (atoms.Not term, n)) e)
