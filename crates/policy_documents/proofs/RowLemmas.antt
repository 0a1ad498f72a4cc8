-- Comparing two lists element by element.
use Rattle.std.proofs.Common.{◌≡◌, ℕ, zero, suc, ◌+◌, ◌<◌, ◌≤◌, Bool, true, false, ◌&&◌, ◌≢◌, List, [], ◌∷◌, length, get_or, drop, map, slice_get, refl, sym, ap, ◌∙◌, arith, add-one, drop-cons}
use Rattle.std.specs.Option.{option_eq}
use Rattle.std.specs.Cmp.Lexicographic.{pointwise, unequal}
use Rattle.std.proofs.lemmas.List.{drop_all}
use Rattle.policy_documents.specs.Documents.{NodeData, children_of}
use Rattle.policy_documents.specs.Equality.{same_node, same_children}

module _ {X Y : Type 0} (test : X → Y → Bool) where
  -- what is left to compare from the element at index i on
  abbrev pub same_from : ℕ → List X → List Y → Bool
  same_from i xs ys = pointwise test (drop i xs) (drop i ys)

  same_from-cons : (i : ℕ) (xs : List X) (ys : List Y) (x : X) (y : Y) → i < length xs → i < length ys → x ≡ get_or xs i x → y ≡ get_or ys i y →
      same_from i xs ys ≡ (test x y && same_from (i + 1) xs ys)
  same_from-cons i xs ys x y in_xs in_ys at_x at_y =
      (λ j. pointwise test (drop-cons xs i x in_xs j) (drop-cons ys i y in_ys j)) ∙ rw (← at_x, ← at_y, add-one) refl

  pub same_from-more : (i : ℕ) (xs : List X) (ys : List Y) (x : X) (y : Y) → i < length xs → i < length ys → x ≡ get_or xs i x → y ≡ get_or ys i y →
      test x y ≡ true → same_from (i + 1) xs ys ≡ same_from i xs ys
  same_from-more i xs ys x y in_xs in_ys at_x at_y told = sym (same_from-cons i xs ys x y in_xs in_ys at_x at_y ∙ ap (λ b. b && same_from (i + 1) xs ys) told)

  pub same_from-other : (i : ℕ) (xs : List X) (ys : List Y) (x : X) (y : Y) → i < length xs → i < length ys → x ≡ get_or xs i x → y ≡ get_or ys i y →
      test x y ≡ false → false ≡ same_from i xs ys
  same_from-other i xs ys x y in_xs in_ys at_x at_y told = sym (same_from-cons i xs ys x y in_xs in_ys at_x at_y ∙ ap (λ b. b && same_from (i + 1) xs ys) told)

  pub same_from-end : (i : ℕ) (xs : List X) (ys : List Y) → length xs ≤ i → length ys ≤ i → true ≡ same_from i xs ys
  same_from-end i xs ys past beyond = sym (λ j. pointwise test (drop_all i xs past j) (drop_all i ys beyond j))

  pub same_from-long : (xs : List X) (ys : List Y) → (length xs ≢ length ys) → false ≡ pointwise test xs ys
  same_from-long xs ys other = sym (unequal test xs ys other)

module _ {X : Type 0} (test : X → X → Bool) where
  same_from-at : (i : ℕ) (xs ys : List X) → i < length xs → i < length ys →
      same_from test i xs ys ≡ (option_eq test (slice_get xs i) (slice_get ys i) && same_from test (suc i) xs ys)
  same_from-at i [] ys in_xs in_ys = absurd (omega arith)
  same_from-at i (x ∷ xs) [] in_xs in_ys = absurd (omega arith)
  same_from-at zero (x ∷ xs) (y ∷ ys) in_xs in_ys = refl
  same_from-at (suc i) (x ∷ xs) (y ∷ ys) in_xs in_ys = same_from-at i xs ys (omega arith) (omega arith)

  pub same_from-more_at : (i : ℕ) (xs ys : List X) → i < length xs → i < length ys →
      option_eq test (slice_get xs i) (slice_get ys i) ≡ true → same_from test (i + 1) xs ys ≡ same_from test i xs ys
  same_from-more_at i xs ys in_xs in_ys told =
      rw add-one (sym (same_from-at i xs ys in_xs in_ys ∙ ap (λ b. b && same_from test (suc i) xs ys) told))

  pub same_from-other_at : (i : ℕ) (xs ys : List X) → i < length xs → i < length ys →
      option_eq test (slice_get xs i) (slice_get ys i) ≡ false → false ≡ same_from test i xs ys
  same_from-other_at i xs ys in_xs in_ys told = sym (same_from-at i xs ys in_xs in_ys ∙ ap (λ b. b && same_from test (suc i) xs ys) told)

-- comparing children is comparing lists of nodes
pub same_children-row : {X Y : Type 0} (f : X → NodeData) (g : Y → NodeData) (xs : List X) (ys : List Y) →
    pointwise (λ x y. same_node (f x) (g y)) xs ys ≡ same_children (children_of (map f xs)) (children_of (map g ys))
same_children-row f g [] [] = refl
same_children-row f g [] (y ∷ ys) = refl
same_children-row f g (x ∷ xs) [] = refl
same_children-row f g (x ∷ xs) (y ∷ ys) = ap (λ b. same_node (f x) (g y) && b) (same_children-row f g xs ys)
