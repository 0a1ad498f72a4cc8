-- The elements of a table, as the first values of a function of their numbers.
use Rattle.std.proofs.Common.{◌≡◌, ◌≢◌, ℕ, zero, suc, ◌+◌, ◌<◌, ◌≤◌, List, [], ◌∷◌, ◌++◌, Option, Some, None, IsSome, length, get_or, set, slice_get, refl, sym, ap, subst, ◌∙◌, inl, inr, arith, true≢false}
use Rattle.std.specs.Prelude.{option_to_list}
use Rattle.std.proofs.lemmas.Bool.{cases_eq}
use Rattle.std.proofs.lemmas.List.{length_push, get_or_push, get_or_append_left, set-append_left, set_at}
use Rattle.std.proofs.lemmas.Option.{slice_get-get_or}
use Rattle.chunks.specs.Tables.{first_values}

module _ {X : Type 0} where
  pub inside : (o : Option X) → IsSome o → (x : X) × (o ≡ Some x)
  inside None filled = absurd (true≢false (sym filled))
  inside (Some x) filled = (x, refl)

  abbrev pub Has : (ℕ → Option X) → ℕ → Type 0
  Has f n = (i : ℕ) → i < n → IsSome (f i)

  -- the last value beside those before it
  last : (f : ℕ → Option X) (n : ℕ) (x : X) → f n ≡ Some x → first_values f (suc n) ≡ first_values f n ++ x ∷ []
  last f n x is = ap (λ o. first_values f n ++ option_to_list o) is

  pub length-first_values : (f : ℕ → Option X) (n : ℕ) → Has f n → length (first_values f n) ≡ n
  length-first_values f zero has = refl
  length-first_values f (suc n) has =
      let x = inside (f n) (has n (omega arith)) in
      let before = length-first_values f n (λ i lt. has i (omega arith)) in
      ap length (last f n x.0 x.1) ∙ length_push (first_values f n) x.0 ∙ omega arith

  pub get_or-first_values : (f : ℕ → Option X) (n i : ℕ) (x d : X) → Has f n → i < n → f i ≡ Some x → get_or (first_values f n) i d ≡ x
  get_or-first_values f zero i x d has within is = absurd (omega arith)
  get_or-first_values f (suc n) i x d has within is =
      let y = inside (f n) (has n (omega arith)) in
      let all : Has f n = λ j lt. has j (omega arith) in
      let long = length-first_values f n all in
      elim (cases_eq i n) [
        | inl same ↦ ap (λ xs. get_or xs i d) (last f n x (ap f (sym same) ∙ is)) ∙ get_or_push (first_values f n) x d i (omega arith)
        | inr other ↦ ap (λ xs. get_or xs i d) (last f n y.0 y.1) ∙ get_or_append_left (first_values f n) (y.0 ∷ []) d i (omega arith) ∙ get_or-first_values f n i x d all (omega arith) is
      ]

  pub slice_get-first_values : (f : ℕ → Option X) (n i : ℕ) (x : X) → Has f n → i < n → f i ≡ Some x → slice_get (first_values f n) i ≡ Some x
  slice_get-first_values f n i x has within is =
      let long = length-first_values f n has in
      slice_get-get_or (first_values f n) i x (omega arith) ∙ ap Some (get_or-first_values f n i x x has within is)

  pub first_values-same : (f g : ℕ → Option X) (n : ℕ) → ((i : ℕ) → i < n → f i ≡ g i) → first_values f n ≡ first_values g n
  first_values-same f g zero same = refl
  first_values-same f g (suc n) same =
      let before = first_values-same f g n (λ i lt. same i (omega arith)) in
      let here = same n (omega arith) in
      λ t. before t ++ option_to_list (here t)

  -- one value is written
  pub first_values-set : (f g : ℕ → Option X) (n i : ℕ) (x : X) → Has f n → i < n → g i ≡ Some x → ((j : ℕ) → j ≢ i → g j ≡ f j) → first_values g n ≡ set (first_values f n) i x
  first_values-set f g zero i x has within here others = absurd (omega arith)
  first_values-set f g (suc n) i x has within here others =
      let y = inside (f n) (has n (omega arith)) in
      let all : Has f n = λ j lt. has j (omega arith) in
      let long = length-first_values f n all in
      elim (cases_eq i n) [
        | inl same ↦
            let before = first_values-same g f n (λ j lt. others j (λ e. omega arith)) in
            last g n x (ap g (sym same) ∙ here) ∙ ap (λ xs. xs ++ x ∷ []) before ∙ sym (ap (λ xs. set xs i x) (last f n y.0 y.1) ∙ set_at (first_values f n) y.0 [] x i (omega arith))
        | inr other ↦
            let before = first_values-set f g n i x all (omega arith) here others in
            last g n y.0 (others n (λ e. other (sym e)) ∙ y.1) ∙ ap (λ xs. xs ++ y.0 ∷ []) before ∙ sym (ap (λ xs. set xs i x) (last f n y.0 y.1) ∙ set-append_left (first_values f n) (y.0 ∷ []) i x (omega arith))
      ]

  -- one value more
  pub first_values-push : (f g : ℕ → Option X) (n : ℕ) (x : X) → g n ≡ Some x → ((j : ℕ) → j ≢ n → g j ≡ f j) → first_values g (n + 1) ≡ first_values f n ++ x ∷ []
  first_values-push f g n x here others =
      let next : n + 1 ≡ suc n = omega arith in
      ap (first_values g) next ∙ last g n x here ∙ ap (λ xs. xs ++ x ∷ []) (first_values-same g f n (λ j lt. others j (λ e. omega arith)))
