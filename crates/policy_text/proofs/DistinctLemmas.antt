-- Distinct names.
use Rattle.std.proofs.Common.{◌≡◌, ℕ, Bool, false, not, ◌||◌, IsTrue, List, [], ◌∷◌, ◌++◌, map, refl, ap, ◌∙◌}
use Rattle.std.specs.List.{list_any}
use Rattle.std.proofs.lemmas.Bool.{and_parts, and_from, or_parts, or_from, not-true}
use Rattle.std.proofs.lemmas.Cmp.{nat_list_eq_equiv}
use Rattle.std.proofs.lemmas.List.Folds.{list_any-append}
use Rattle.policy_documents.specs.Documents.{are_distinct}
use Rattle.features.specs.Equality.{same_name}

-- the test of two names is symmetric
same_name-sym : (a b : List ℕ) → same_name a b ≡ same_name b a
same_name-sym a b = nat_list_eq_equiv.symm a b

-- names stay distinct when a new one is appended
pub are_distinct-push : (names : List (List ℕ)) (name : List ℕ) → IsTrue (are_distinct names) → list_any (same_name name) names ≡ false → IsTrue (are_distinct (names ++ name ∷ []))
are_distinct-push [] name distinct new = refl
are_distinct-push (first ∷ rest) name distinct new =
    let parts = and_parts _ _ distinct in
    let apart = or_parts _ _ new in
    let others : list_any (same_name first) rest ≡ false = not-true _ parts.0 in
    let behind : list_any (same_name first) (rest ++ name ∷ []) ≡ false = list_any-append (same_name first) rest (name ∷ []) ∙ or_from _ _ others (or_from _ _ (same_name-sym first name ∙ apart.0) refl) in
    and_from _ _ (ap not behind) (are_distinct-push rest name parts.1 apart.1)

-- a test of the names of several elements is a test of each by its name
pub list_any-names : {X : Type 0} (test : List ℕ → Bool) (name : X → List ℕ) (xs : List X) → list_any (λ x. test (name x)) xs ≡ list_any test (map name xs)
list_any-names test name [] = refl
list_any-names test name (x ∷ xs) = ap (λ b. test (name x) || b) (list_any-names test name xs)
