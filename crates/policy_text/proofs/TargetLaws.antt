-- Targets and conditions that were read.
use Rattle.std.proofs.Common.{◌≡◌, ℕ, ◌+◌, Bool, ◌&&◌, true, IsTrue, List, [], ◌∷◌, length, flat_map, refl, ap, sym, subst, ◌∙◌, arith, length-append, Ok}
use Rattle.std.specs.List.{list_all}
use Rattle.std.proofs.lemmas.Bool.{and_from}
use Rattle.serde_json.specs.Data.{Data, Items}
use Rattle.policy_documents.specs.Documents.{is_zone_known, is_match_spelled, is_filled, is_target, target_matches, atom_term, term_matches, atom_size, atom_sizes}
use Rattle.policy_text.specs.Reading.{match_at, atom_at, items_in, all_of_at, any_of_at, target_at, when_at}
use Rattle.policy_documents.specs.declared.zones.Zone.{Zone}
use Rattle.policy_text.specs.declared.paths.PathPart.{PathPart}
use Rattle.policy_documents.specs.declared.matches.Match.{Match}
use Rattle.policy_documents.specs.declared.matches.Atom.{Atom}
use Rattle.policy_text.proofs.ChainLemmas.{bound, items_in-filled, each_at-filled}
use Rattle.policy_text.proofs.TestLaws.{IsTested, sizes_of, each_tested, match_at-tested}
use Rattle.policy_text.proofs.AtomLaws.{atom_at-tested}

sizes-length : {X : Type 0} (xs : List X) → sizes_of (λ _. 1) xs ≡ length xs
sizes-length [] = refl
sizes-length (x ∷ xs) = let h = sizes-length xs in omega arith

sizes-flat_map : {X Y : Type 0} (f : X → List Y) (xs : List X) → sizes_of (λ x. length (f x)) xs ≡ length (flat_map f xs)
sizes-flat_map f [] = refl
sizes-flat_map f (x ∷ xs) = ap (λ n. length (f x) + n) (sizes-flat_map f xs) ∙ sym (length-append (f x) (flat_map f xs))

sizes-atoms : (xs : List Atom) → sizes_of atom_size xs ≡ atom_sizes xs
sizes-atoms [] = refl
sizes-atoms (x ∷ xs) = ap (λ n. atom_size x + n) (sizes-atoms xs)

singles : {X : Type 0} (xs : List X) → flat_map (λ x. x ∷ []) xs ≡ xs
singles [] = refl
singles (x ∷ xs) = ap (λ ys. x ∷ ys) (singles xs)

module _ (zones : List Zone) where
  -- the same part with its count and its matches written otherwise
  as_tested : (a b s t : ℕ) (xs ys : List Match) (f g : Bool) → s ≡ t → xs ≡ ys → IsTrue g → IsTested zones a s xs f b → IsTested zones a t ys g b
  as_tested a b s t xs ys f g size same full h = record {
    count = h.count ∙ ap (λ n. a + n) size;
    within = h.within;
    known = subst (λ zs. IsTrue (list_all (is_zone_known zones) zs)) same h.known;
    spelled = subst (λ zs. IsTrue (list_all is_match_spelled zs)) same h.spelled;
    filled = full;
  }

  all_of_at-tested : (path : List PathPart) (a : ℕ) (d : Data) (r : List Match × ℕ) → all_of_at zones path a d ≡ Ok r → IsTested zones a (length r.0) r.0 (is_filled r.0) r.1
  unfolding all_of_at
  all_of_at-tested path a d r told = bound (items_in path d) _ r told (λ items found read.
      as_tested a r.1 _ (length r.0) _ r.0 _ (is_filled r.0) (sizes-length r.0) (singles r.0)
      (each_at-filled (match_at zones) path 0 a items r (items_in-filled path d items found) read)
      (each_tested zones (match_at zones) (λ _. 1) (λ m. m ∷ []) (λ _. true) (match_at-tested zones) path 0 a items r read))

  abbrev listed : List (List Match) → List Match
  listed = flat_map (λ matches. matches)

  any_of_at-tested : (path : List PathPart) (a : ℕ) (d : Data) (r : List (List Match) × ℕ) → any_of_at zones path a d ≡ Ok r →
      IsTested zones a (length (listed r.0)) (listed r.0) (is_filled r.0 && list_all is_filled r.0) r.1
  unfolding any_of_at
  any_of_at-tested path a d r told = bound (items_in path d) _ r told (λ items found read.
      let t = each_tested zones (all_of_at zones) length (λ matches. matches) is_filled all_of_at-tested path 0 a items r read in
      as_tested a r.1 _ (length (listed r.0)) _ (listed r.0) _ (is_filled r.0 && list_all is_filled r.0) (sizes-flat_map (λ matches. matches) r.0) refl
      (and_from _ _ (each_at-filled (all_of_at zones) path 0 a items r (items_in-filled path d items found) read) t.filled) t)

  -- a target
  pub target_at-tested : (path : List PathPart) (a : ℕ) (items : Items) (r : List (List (List Match)) × ℕ) → target_at zones path a items ≡ Ok r →
      IsTested zones a (length (target_matches r.0)) (target_matches r.0) (is_target r.0) r.1
  unfolding target_at
  target_at-tested path a items r told =
      let t = each_tested zones (any_of_at zones) (λ part. length (listed part)) listed (λ part. is_filled part && list_all is_filled part) any_of_at-tested path 0 a items r told in
      as_tested a r.1 _ (length (target_matches r.0)) _ (target_matches r.0) _ (is_target r.0) (sizes-flat_map listed r.0) refl t.filled t

  -- conditions
  pub when_at-tested : (path : List PathPart) (a : ℕ) (items : Items) (r : List Atom × ℕ) → when_at zones path a items ≡ Ok r →
      IsTested zones a (atom_sizes r.0) (flat_map (λ atom. term_matches (atom_term atom)) r.0) true r.1
  unfolding when_at
  when_at-tested path a items r told =
      let t = each_tested zones (atom_at zones) atom_size (λ atom. term_matches (atom_term atom)) (λ _. true) (atom_at-tested zones) path 0 a items r told in
      as_tested a r.1 _ (atom_sizes r.0) _ (flat_map (λ atom. term_matches (atom_term atom)) r.0) _ true (sizes-atoms r.0) refl refl t
