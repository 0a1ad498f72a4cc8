-- Tests of all, or of any, elements of a list, with one more element.
use Rattle.std.proofs.Common.{◌≡◌, ℕ, zero, suc, ◌+◌, ◌<◌, Bool, true, false, ◌&&◌, ◌||◌, List, [], ◌∷◌, ◌++◌, length, get_or, take, refl, sym, ap, ◌∙◌, arith}
use Rattle.std.specs.List.{list_all, list_any}
use Rattle.std.proofs.lemmas.List.{take_more}
use Rattle.combining.proofs.EnclosingLemmas.{and_and}

and_true : (b : Bool) → (b && true) ≡ b
and_true true = refl
and_true false = refl

or_false : (b : Bool) → (b || false) ≡ b
or_false true = refl
or_false false = refl

or_or : (a b c : Bool) → (a || b || c) ≡ (a || (b || c))
or_or true b c = refl
or_or false b c = refl

and_false : (b : Bool) → (b && false) ≡ false
and_false true = refl
and_false false = refl

or_true : (b : Bool) → (b || true) ≡ true
or_true true = refl
or_true false = refl

module _ {X : Type 0} (test : X → Bool) where
  pub all-push : (xs : List X) (x : X) → list_all test (xs ++ x ∷ []) ≡ (list_all test xs && test x)
  all-push [] x = and_true (test x)
  all-push (y ∷ ys) x = ap (λ b. test y && b) (all-push ys x) ∙ sym (and_and (test y) _ _)

  pub any-push : (xs : List X) (x : X) → list_any test (xs ++ x ∷ []) ≡ (list_any test xs || test x)
  any-push [] x = or_false (test x)
  any-push (y ∷ ys) x = ap (λ b. test y || b) (any-push ys x) ∙ sym (or_or (test y) _ _)

  pub all-more : (xs : List X) (i : ℕ) (x : X) → i < length xs → x ≡ get_or xs i x → list_all test (take (i + 1) xs) ≡ (list_all test (take i xs) && test x)
  all-more xs i x in_range at = ap (list_all test) (take_more xs i x in_range ∙ ap (λ y. take i xs ++ y ∷ []) (sym at)) ∙ all-push (take i xs) x

  pub any-more : (xs : List X) (i : ℕ) (x : X) → i < length xs → x ≡ get_or xs i x → list_any test (take (i + 1) xs) ≡ (list_any test (take i xs) || test x)
  any-more xs i x in_range at = ap (list_any test) (take_more xs i x in_range ∙ ap (λ y. take i xs ++ y ∷ []) (sym at)) ∙ any-push (take i xs) x

  -- one element decides: a failing one for all, a passing one for any
  all-at : (xs : List X) (i : ℕ) (d : X) → i < length xs → test (get_or xs i d) ≡ false → list_all test xs ≡ false
  all-at [] i d in_range out = absurd (omega arith)
  all-at (y ∷ ys) zero d in_range out = ap (λ b. b && list_all test ys) out
  all-at (y ∷ ys) (suc i) d in_range out = ap (λ b. test y && b) (all-at ys i d (omega arith) out) ∙ and_false (test y)

  any-at : (xs : List X) (i : ℕ) (d : X) → i < length xs → test (get_or xs i d) ≡ true → list_any test xs ≡ true
  any-at [] i d in_range here = absurd (omega arith)
  any-at (y ∷ ys) zero d in_range here = ap (λ b. b || list_any test ys) here
  any-at (y ∷ ys) (suc i) d in_range here = ap (λ b. test y || b) (any-at ys i d (omega arith) here) ∙ or_true (test y)

  pub all-fails : (xs : List X) (i : ℕ) (x : X) → i < length xs → x ≡ get_or xs i x → test x ≡ false → list_all test xs ≡ false
  all-fails xs i x in_range at out = all-at xs i x in_range (ap test (sym at) ∙ out)

  pub any-holds : (xs : List X) (i : ℕ) (x : X) → i < length xs → x ≡ get_or xs i x → test x ≡ true → list_any test xs ≡ true
  any-holds xs i x in_range at here = any-at xs i x in_range (ap test (sym at) ∙ here)
