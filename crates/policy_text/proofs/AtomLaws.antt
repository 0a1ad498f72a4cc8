-- Terms and atoms that were read.
use Rattle.std.proofs.Common.{◌≡◌, ℕ, true, IsTrue, List, refl, subst, arith, Ok, Option, Some, None, option_and_then}
use Rattle.std.specs.List.{list_all}
use Rattle.std.proofs.lemmas.Bool.{and_from}
use Rattle.serde_json.specs.Data.{Data}
use Rattle.serde_json.specs.Find.{as_bool}
use Rattle.policy_documents.specs.Documents.{is_zone_known, is_match_spelled, atom_term, term_matches, atom_size}
use Rattle.policy_text.specs.Reading.{◌>>=◌, at_key, value_of, has_key, is_true, counted, match_in, own_in, term_in, known_term, term_of, term_at, atom_of, atom_at}
use Rattle.policy_documents.specs.declared.zones.Zone.{Zone}
use Rattle.policy_text.specs.declared.paths.MemberName.TheVariants as member_names
use Rattle.policy_text.specs.declared.paths.PathPart.{PathPart}
use Rattle.policy_documents.specs.declared.matches.Term.{Term}
use Rattle.policy_documents.specs.declared.matches.Term.TheVariants as terms
use Rattle.policy_documents.specs.declared.matches.Atom.{Atom}
use Rattle.policy_documents.specs.declared.matches.Atom.TheVariants as atoms
use Rattle.policy_text.proofs.ChainLemmas.{bound, same_value, taken, either}
use Rattle.policy_text.proofs.TestLaws.{IsTested, counted-read, known_in-known, match_in-spelled}

abbrev IsSpelled : Term → Type 0
IsSpelled term = IsTrue (list_all is_match_spelled (term_matches term))

module _ (path : List PathPart) (d : Data) where
  own_in-spelled : (term : Term) → own_in path d ≡ Ok term → IsSpelled term
  own_in-spelled term told =
      let t = taken (is_true (option_and_then as_bool (value_of member_names.Own d))) terms.Own term _ told in subst IsSpelled t.1 refl

  in_match : (term : Term) → (match_in path d >>= λ m. Ok (terms.Match m)) ≡ Ok term → IsSpelled term
  in_match term told = bound (match_in path d) (λ m. Ok (terms.Match m)) term told (λ m found end.
      subst IsSpelled (same_value (terms.Match m) term end) (and_from _ true (match_in-spelled path d m found) refl))

  term_in-spelled : (term : Term) → term_in path d ≡ Ok term → IsSpelled term
  unfolding term_in
  term_in-spelled term = either IsSpelled (has_key member_names.Own d) _ _ term (own_in-spelled term) (in_match term)

module _ (zones : List Zone) where
  known_term-known : (path : List PathPart) (term : Term) (u : Unit {0}) → known_term zones path term ≡ Ok u → IsTrue (list_all (is_zone_known zones) (term_matches term))
  known_term-known path (terms.Match m) u told = and_from _ true (known_in-known zones path m u told) refl
  known_term-known path terms.Own u told = refl

  term_of-tested : (path : List PathPart) (a : ℕ) (d : Data) (r : Term × ℕ) → term_of zones path a d ≡ Ok r → IsTested zones a 1 (term_matches r.0) true r.1
  unfolding term_of
  term_of-tested path a d r told = bound _ _ r told (λ term found known. bound _ _ r known (λ u there counting. bound _ _ r counting (λ n counted end.
      let c = counted-read path a n counted in
      subst (λ q. IsTested zones a 1 (term_matches q.0) true q.1) (same_value (term, n) r end)
      (record { count = c.0; within = λ _. c.1; known = known_term-known path term u there; spelled = term_in-spelled path d term found; filled = refl }))))

  term_at-tested : (path : List PathPart) (a : ℕ) (d : Data) (r : Term × ℕ) → term_at zones path a d ≡ Ok r → IsTested zones a 1 (term_matches r.0) true r.1
  unfolding term_at
  term_at-tested path a d r told = bound _ _ r told (λ _ _ read. term_of-tested path a d r read)

  -- what an atom adds to the count and the matches
  abbrev IsAtom : ℕ → Atom × ℕ → Type 0
  IsAtom a r = IsTested zones a (atom_size r.0) (term_matches (atom_term r.0)) true r.1

  negated : (path : List PathPart) (a b : ℕ) (r : Term × ℕ) → counted path a ≡ Ok b → IsTested zones b 1 (term_matches r.0) true r.1 → IsAtom a (atoms.Not r.0, r.1)
  negated path a b r counted t = let c = counted-read path a b counted in
      record { count = omega (arith, c.0, t.count); within = λ _. t.within c.1; known = t.known; spelled = t.spelled; filled = refl }

  atom_of-tested : (path : List PathPart) (a : ℕ) (d : Data) (o : Option Data) (r : Atom × ℕ) → atom_of zones path a d o ≡ Ok r → IsAtom a r
  unfolding atom_of
  atom_of-tested path a d None r told = bound (term_of zones path a d) (λ t. Ok (atoms.Is t.0, t.1)) r told (λ t read end.
      subst (IsAtom a) (same_value (atoms.Is t.0, t.1) r end) (term_of-tested path a d t read))
  atom_of-tested path a d (Some inner) r told = bound (counted path a) _ r told (λ b counted rest.
      bound (term_at zones (at_key path member_names.Not) b inner) (λ t. Ok (atoms.Not t.0, t.1)) r rest (λ t read end.
      subst (IsAtom a) (same_value (atoms.Not t.0, t.1) r end) (negated path a b t counted (term_at-tested (at_key path member_names.Not) b inner t read))))

  pub atom_at-tested : (path : List PathPart) (a : ℕ) (d : Data) (r : Atom × ℕ) → atom_at zones path a d ≡ Ok r → IsTested zones a (atom_size r.0) (term_matches (atom_term r.0)) true r.1
  unfolding atom_at
  atom_at-tested path a d r told = bound _ _ r told (λ _ _ read. atom_of-tested path a d (value_of member_names.Not d) r read)
