-- What is known of a question decides some of its matches and reduces a list of tests.
use Rattle.std.proofs.Common.{◌≡◌, ℕ, ◌+◌, ◌<◌, ◌≤◌, Bool, true, false, not, ◌&&◌, ◌||◌, List, [], ◌∷◌, ◌++◌, length, get_or, take, Option, Some, None, option_map, refl, sym, ap, ◌∙◌, arith}
use Rattle.std.proofs.lemmas.List.{take_all}
use Rattle.std.specs.List.{list_all, list_any}
use Rattle.features.specs.Equality.{same_name}
use Rattle.policy_documents.specs.Equality.{same_action}
use Rattle.policy_documents.specs.declared.matches.Match.{Match}
use Rattle.policy_documents.specs.declared.matches.Match.TheVariants as matches
use Rattle.policy_documents.specs.declared.matches.Term.TheVariants as terms
use Rattle.policy_documents.specs.declared.matches.Atom.{Atom}
use Rattle.policy_documents.specs.declared.matches.Atom.TheVariants as atoms
use Rattle.combining.specs.declared.questions.Question.{Question}
use Rattle.combining.specs.Holding.{match_holds, term_holds, atom_holds}
use Rattle.decision.specs.declared.known.Known.{Known}
use Rattle.decision.specs.declared.known.Known.TheVariants.{Nothing, Asked, Feature}
use Rattle.decision.specs.Known.{Fits, Test, told_match, told_own, told_atom}
use Rattle.combining.proofs.TestLemmas.{all-more, any-more, all-fails, any-holds, all-push, any-push}

the_same : (a b c : Bool) → a ≡ c → Some c ≡ Some b → a ≡ b
the_same a b c e f = let g : c ≡ b = cc in e ∙ g

pub told-match : (known : Known) (m : Match) (b : Bool) → told_match known m ≡ Some b → (q : Question) (met : List (List ℕ)) → Fits known q → match_holds q met m ≡ b
told-match Nothing m b e q met fits = absurd cc
told-match (Asked subject action) (matches.Role name) b e q met fits = the_same _ b (same_name subject.role name) (ap (λ s. same_name s.role name) fits.0) e
told-match (Asked subject action) (matches.Office name) b e q met fits = the_same _ b (same_name subject.office name) (ap (λ s. same_name s.office name) fits.0) e
told-match (Asked subject action) (matches.Class name) b e q met fits = absurd cc
told-match (Asked subject action) (matches.Owner name) b e q met fits = absurd cc
told-match (Asked subject action) (matches.Zone name) b e q met fits = absurd cc
told-match (Asked subject action) (matches.Action wanted) b e q met fits = the_same _ b (same_action action wanted) (ap (λ a. same_action a wanted) fits.1) e
told-match (Feature at owner class) (matches.Role name) b e q met fits = the_same _ b (same_name at.role name) (ap (λ r. same_name r name) fits.0.role) e
told-match (Feature at owner class) (matches.Office name) b e q met fits = the_same _ b (same_name at.office name) (ap (λ o. same_name o name) fits.0.office) e
told-match (Feature at owner class) (matches.Class name) b e q met fits = the_same _ b (same_name class name) (ap (λ c. same_name c name) fits.2) e
told-match (Feature at owner class) (matches.Owner name) b e q met fits = the_same _ b (same_name owner name) (ap (λ o. same_name o name) fits.1) e
told-match (Feature at owner class) (matches.Zone name) b e q met fits = absurd cc
told-match (Feature at owner class) (matches.Action wanted) b e q met fits = the_same _ b (same_action at.action wanted) (ap (λ a. same_action a wanted) fits.0.action) e

told-own : (known : Known) (b : Bool) → told_own known ≡ Some b → (q : Question) (met : List (List ℕ)) → Fits known q → term_holds q met terms.Own ≡ b
told-own Nothing b e q met fits = absurd cc
told-own (Asked subject action) b e q met fits = absurd cc
told-own (Feature at owner class) b e q met fits =
    the_same _ b (same_name owner at.office) ((λ i. same_name (fits.1 i) (fits.0.office i))) e

negated : (o : Option Bool) (b : Bool) → option_map not o ≡ Some b → o ≡ Some (not b)
negated None b e = absurd cc
negated (Some true) false e = refl
negated (Some false) true e = refl
negated (Some true) true e = absurd cc
negated (Some false) false e = absurd cc

not_not : (b : Bool) → not (not b) ≡ b
not_not true = refl
not_not false = refl

pub told-atom : (known : Known) (atom : Atom) (b : Bool) → told_atom known atom ≡ Some b → (q : Question) (met : List (List ℕ)) → Fits known q → atom_holds q met atom ≡ b
told-atom known (atoms.Is (terms.Match m)) b e q met fits = told-match known m b e q met fits
told-atom known (atoms.Not (terms.Match m)) b e q met fits = ap not (told-match known m (not b) (negated (told_match known m) b e) q met fits) ∙ not_not b
told-atom known (atoms.Is terms.Own) b e q met fits = told-own known b e q met fits
told-atom known (atoms.Not terms.Own) b e q met fits = ap not (told-own known (not b) (negated (told_own known) b e) q met fits) ∙ not_not b

and_true : (b : Bool) → (b && true) ≡ b
and_true true = refl
and_true false = refl

or_false : (b : Bool) → (b || false) ≡ b
or_false true = refl
or_false false = refl

module _ {X : Type 0} (known : Known) (test : Test X) where
  -- x has this result for every question that fits
  abbrev pub Told : X → Bool → Type 0
  Told x b = (q : Question) (met : List (List ℕ)) → Fits known q → test q met x ≡ b

  abbrev pub SameAll : List X → List X → Type 0
  SameAll xs kept = (q : Question) (met : List (List ℕ)) → Fits known q → list_all (test q met) xs ≡ list_all (test q met) kept

  abbrev pub SameAny : List X → List X → Type 0
  SameAny xs kept = (q : Question) (met : List (List ℕ)) → Fits known q → list_any (test q met) xs ≡ list_any (test q met) kept

  abbrev pub SameTest : X → X → Type 0
  SameTest x y = (q : Question) (met : List (List ℕ)) → Fits known q → test q met x ≡ test q met y

  pub all-skip : (xs : List X) (i : ℕ) (x : X) (kept : List X) → i < length xs → x ≡ get_or xs i x → Told x true → SameAll (take i xs) kept → SameAll (take (i + 1) xs) kept
  all-skip xs i x kept in_range at told same q met fits =
      all-more (test q met) xs i x in_range at ∙ ap (λ b. list_all (test q met) (take i xs) && b) (told q met fits) ∙ and_true _ ∙ same q met fits

  pub all-keep : (xs : List X) (i : ℕ) (x y : X) (kept more : List X) → i < length xs → x ≡ get_or xs i x → more ≡ kept ++ y ∷ [] → SameTest x y → SameAll (take i xs) kept → SameAll (take (i + 1) xs) more
  all-keep xs i x y kept more in_range at all one same q met fits =
      all-more (test q met) xs i x in_range at ∙ (λ j. same q met fits j && one q met fits j) ∙ sym (ap (list_all (test q met)) all ∙ all-push (test q met) kept y)

  pub all-lost : (xs : List X) (i : ℕ) (x : X) → i < length xs → x ≡ get_or xs i x → Told x false → (q : Question) (met : List (List ℕ)) → Fits known q → list_all (test q met) xs ≡ false
  all-lost xs i x in_range at told q met fits = all-fails (test q met) xs i x in_range at (told q met fits)

  pub any-skip : (xs : List X) (i : ℕ) (x : X) (kept : List X) → i < length xs → x ≡ get_or xs i x → Told x false → SameAny (take i xs) kept → SameAny (take (i + 1) xs) kept
  any-skip xs i x kept in_range at told same q met fits =
      any-more (test q met) xs i x in_range at ∙ ap (λ b. list_any (test q met) (take i xs) || b) (told q met fits) ∙ or_false _ ∙ same q met fits

  pub any-keep : (xs : List X) (i : ℕ) (x y : X) (kept more : List X) → i < length xs → x ≡ get_or xs i x → more ≡ kept ++ y ∷ [] → SameTest x y → SameAny (take i xs) kept → SameAny (take (i + 1) xs) more
  any-keep xs i x y kept more in_range at all one same q met fits =
      any-more (test q met) xs i x in_range at ∙ (λ j. same q met fits j || one q met fits j) ∙ sym (ap (list_any (test q met)) all ∙ any-push (test q met) kept y)

  pub any-found : (xs : List X) (i : ℕ) (x : X) → i < length xs → x ≡ get_or xs i x → Told x true → (q : Question) (met : List (List ℕ)) → Fits known q → list_any (test q met) xs ≡ true
  any-found xs i x in_range at told q met fits = any-holds (test q met) xs i x in_range at (told q met fits)

  none-all : (q : Question) (met : List (List ℕ)) (xs : List X) → length xs ≡ 0 → list_all (test q met) xs ≡ true
  none-all q met [] e = refl
  none-all q met (x ∷ xs) e = absurd (omega (arith, e))

  none-any : (q : Question) (met : List (List ℕ)) (xs : List X) → length xs ≡ 0 → list_any (test q met) xs ≡ false
  none-any q met [] e = refl
  none-any q met (x ∷ xs) e = absurd (omega (arith, e))

  -- the loop is past the whole list
  pub all-end : (xs whole kept left : List X) (i : ℕ) → length xs ≤ i → xs ≡ whole → left ≡ kept → SameAll (take i xs) kept → SameAll whole left
  all-end xs whole kept left i past is left_is same q met fits =
      ap (list_all (test q met)) (sym is ∙ sym (take_all i xs past)) ∙ same q met fits ∙ ap (list_all (test q met)) (sym left_is)

  pub any-end : (xs whole kept left : List X) (i : ℕ) → length xs ≤ i → xs ≡ whole → left ≡ kept → SameAny (take i xs) kept → SameAny whole left
  any-end xs whole kept left i past is left_is same q met fits =
      ap (list_any (test q met)) (sym is ∙ sym (take_all i xs past)) ∙ same q met fits ∙ ap (list_any (test q met)) (sym left_is)

  -- the same, if nothing of the list was kept
  pub all-always : (xs whole kept : List X) (i : ℕ) → length xs ≤ i → xs ≡ whole → length kept ≡ 0 → SameAll (take i xs) kept → (q : Question) (met : List (List ℕ)) → Fits known q →
      list_all (test q met) whole ≡ true
  all-always xs whole kept i past is none same q met fits = all-end xs whole kept kept i past is refl same q met fits ∙ none-all q met kept none

  pub any-never : (xs whole kept : List X) (i : ℕ) → length xs ≤ i → xs ≡ whole → length kept ≡ 0 → SameAny (take i xs) kept → (q : Question) (met : List (List ℕ)) → Fits known q →
      list_any (test q met) whole ≡ false
  any-never xs whole kept i past is none same q met fits = any-end xs whole kept kept i past is refl same q met fits ∙ none-any q met kept none
