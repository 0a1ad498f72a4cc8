-- Looking up the progress of searches by their number.
use Rattle.std.proofs.Common.{◌≡◌, ◌≢◌, ℕ, zero, suc, ◌<◌, ◌==◌, not, List, [], ◌∷◌, ◌++◌, length, filter, slice_index_or, slice_set, Some, None, refl, sym, ap, ◌∙◌, inl, inr, arith}
use Rattle.std.proofs.lemmas.Bool.{cases_eq, eq-eqb, ne_eqb}
use Rattle.std.proofs.lemmas.List.{length-set}
use Rattle.std.proofs.lemmas.List.Quantifiers.{all_pairs_push}
use Rattle.tree_nodes.specs.Progresses.{PlainProgress}
use Rattle.search_tree.specs.Trees.{progress_at, IsFirstOf, NumbersDiffer}

module _ {Item : Type 0} where
  here : (number : ℕ) (p : PlainProgress Item) (rest : List (PlainProgress Item)) → p.number ≡ number → progress_at number (p ∷ rest) ≡ Some p
  here number p rest same = rw (eq-eqb p.number number same) refl

  later : (number : ℕ) (p : PlainProgress Item) (rest : List (PlainProgress Item)) → p.number ≢ number → progress_at number (p ∷ rest) ≡ progress_at number rest
  later number p rest other = rw (ne_eqb p.number number other) refl

  -- no place has the number, so none is found
  pub nowhere : (number : ℕ) (ps : List (PlainProgress Item)) → ((k : ℕ) (d : PlainProgress Item) → k < length ps → (slice_index_or ps k d).number ≢ number) → progress_at number ps ≡ None
  nowhere number [] none = refl
  nowhere number (p ∷ rest) none = later number p rest (none 0 p (omega arith)) ∙ nowhere number rest (λ k d within. none (suc k) d (omega arith))

  -- the first progress with the number is found, before and after it is replaced
  pub first_read : (number : ℕ) (ps : List (PlainProgress Item)) (at : ℕ) (p : PlainProgress Item) → IsFirstOf number ps at → ((d : PlainProgress Item) → slice_index_or ps at d ≡ p) → progress_at number ps ≡ Some p
  first_read number [] at p first is = let lt = first.within in absurd (omega arith)
  first_read number (q ∷ rest) zero p first is = here number q rest (first.named q) ∙ ap Some (is q)
  first_read number (q ∷ rest) (suc at) p first is =
      later number q rest (first.before 0 q (omega arith))
      ∙ first_read number rest at p (record { within = let lt = first.within in omega arith; named = first.named; before = λ k d lt. first.before (suc k) d (omega arith) }) is

  pub set_here : (number : ℕ) (ps : List (PlainProgress Item)) (at : ℕ) (p : PlainProgress Item) → IsFirstOf number ps at → p.number ≡ number → progress_at number (slice_set ps at p) ≡ Some p
  set_here number [] at p first same = let lt = first.within in absurd (omega arith)
  set_here number (q ∷ rest) zero p first same = here number p rest same
  set_here number (q ∷ rest) (suc at) p first same =
      later number q (slice_set rest at p) (first.before 0 q (omega arith))
      ∙ set_here number rest at p (record { within = let lt = first.within in omega arith; named = first.named; before = λ k d lt. first.before (suc k) d (omega arith) }) same

  pub set_other : (number other : ℕ) (ps : List (PlainProgress Item)) (at : ℕ) (p : PlainProgress Item) → IsFirstOf number ps at → p.number ≡ number → other ≢ number → progress_at other (slice_set ps at p) ≡ progress_at other ps
  set_other number other [] at p first same apart = refl
  set_other number other (q ∷ rest) zero p first same apart =
      later other p rest (λ e. apart (sym e ∙ same)) ∙ sym (later other q rest (λ e. apart (sym e ∙ first.named q)))
  set_other number other (q ∷ rest) (suc at) p first same apart = elim (cases_eq q.number other) [
    | inl e ↦ here other q (slice_set rest at p) e ∙ sym (here other q rest e)
    | inr ne ↦
        later other q (slice_set rest at p) ne
        ∙ set_other number other rest at p (record { within = let lt = first.within in omega arith; named = first.named; before = λ k d lt. first.before (suc k) d (omega arith) }) same apart
        ∙ sym (later other q rest ne)
  ]

  -- one more progress, at the end
  pub pushed_here : (ps : List (PlainProgress Item)) (p : PlainProgress Item) → progress_at p.number ps ≡ None → progress_at p.number (ps ++ p ∷ []) ≡ Some p
  pushed_here [] p none = here p.number p [] refl
  pushed_here (q ∷ rest) p none = elim (cases_eq q.number p.number) [
    | inl same ↦ let found = here p.number q rest same in absurd (cc (found, none))
    | inr other ↦ later p.number q (rest ++ p ∷ []) other ∙ pushed_here rest p (sym (later p.number q rest other) ∙ none)
  ]

  pub pushed_other : (other : ℕ) (ps : List (PlainProgress Item)) (p : PlainProgress Item) → p.number ≢ other → progress_at other (ps ++ p ∷ []) ≡ progress_at other ps
  pushed_other other [] p apart = later other p [] apart
  pushed_other other (q ∷ rest) p apart = elim (cases_eq q.number other) [
    | inl same ↦ here other q (rest ++ p ∷ []) same ∙ sym (here other q rest same)
    | inr ne ↦ later other q (rest ++ p ∷ []) ne ∙ (pushed_other other rest p apart ∙ sym (later other q rest ne))
  ]

  -- after all with a number are removed
  pub filtered_here : (number : ℕ) (ps : List (PlainProgress Item)) → progress_at number (filter (λ p. not (p.number == number)) ps) ≡ None
  filtered_here number [] = refl
  filtered_here number (p ∷ rest) = elim (cases_eq p.number number) [
    | inl same ↦ rw (eq-eqb p.number number same) (filtered_here number rest)
    | inr other ↦ rw (ne_eqb p.number number other) (later number p _ other ∙ filtered_here number rest)
  ]

  pub filtered_none : (number : ℕ) (ps : List (PlainProgress Item)) → progress_at number ps ≡ None → filter (λ p. not (p.number == number)) ps ≡ ps
  filtered_none number [] none = refl
  filtered_none number (p ∷ rest) none = elim (cases_eq p.number number) [
    | inl same ↦ let found = here number p rest same in absurd (cc (found, none))
    | inr other ↦ rw (ne_eqb p.number number other) (ap (λ (ps : List (PlainProgress Item)). p ∷ ps) (filtered_none number rest (sym (later number p rest other) ∙ none)))
  ]

  pub filtered_other : (number other : ℕ) (ps : List (PlainProgress Item)) → other ≢ number → progress_at other (filter (λ p. not (p.number == number)) ps) ≡ progress_at other ps
  filtered_other number other [] apart = refl
  filtered_other number other (p ∷ rest) apart = elim (cases_eq p.number number) [
    | inl same ↦ rw (eq-eqb p.number number same) (filtered_other number other rest apart ∙ sym (later other p rest (λ e. apart (sym e ∙ same))))
    | inr ne ↦ rw (ne_eqb p.number number ne) (elim (cases_eq p.number other) [
      | inl e ↦ here other p _ e ∙ sym (here other p rest e)
      | inr far ↦ later other p _ far ∙ (filtered_other number other rest apart ∙ sym (later other p rest far))
    ])
  ]

  -- numbers still differ where one with a new number is added
  pub differ_pushed : (ps : List (PlainProgress Item)) (p : PlainProgress Item) → progress_at p.number ps ≡ None → NumbersDiffer ps → NumbersDiffer (ps ++ p ∷ [])
  differ_pushed ps p none differ = all_pairs_push (λ (a b : PlainProgress Item). a.number ≢ b.number) ps p differ (λ k d within. absent p.number ps none k d within)
    where
      absent : (number : ℕ) (qs : List (PlainProgress Item)) → progress_at number qs ≡ None → (k : ℕ) (d : PlainProgress Item) → k < length qs → (slice_index_or qs k d).number ≢ number
      absent number [] none k d within = absurd (omega arith)
      absent number (q ∷ rest) none zero d within = λ same. let found = here number q rest same in absurd (cc (found, none))
      absent number (q ∷ rest) none (suc k) d within = elim (cases_eq q.number number) [
        | inl same ↦ let found = here number q rest same in absurd (cc (found, none))
        | inr other ↦ absent number rest (sym (later number q rest other) ∙ none) k d (omega arith)
      ]

  -- numbers still differ where one is replaced by another with the same number
  pub differ_set : (number : ℕ) (ps : List (PlainProgress Item)) (at : ℕ) (p : PlainProgress Item) → IsFirstOf number ps at → p.number ≡ number → NumbersDiffer ps → NumbersDiffer (slice_set ps at p)
  differ_set number ps at p first same differ i j d order within =
      let long = length-set ps at p in
      let one = numbers_stay ps at (λ d. first.named d ∙ sym same) i d in
      let other = numbers_stay ps at (λ d. first.named d ∙ sym same) j d in
      λ e. differ i j d order (omega (arith, long, within)) (sym one ∙ e ∙ other)
    where
      numbers_stay : (qs : List (PlainProgress Item)) (place : ℕ) → ((d : PlainProgress Item) → (slice_index_or qs place d).number ≡ p.number) → (k : ℕ) (d : PlainProgress Item) → (slice_index_or (slice_set qs place p) k d).number ≡ (slice_index_or qs k d).number
      numbers_stay [] place named k d = refl
      numbers_stay (q ∷ rest) zero named zero d = sym (named d)
      numbers_stay (q ∷ rest) zero named (suc k) d = refl
      numbers_stay (q ∷ rest) (suc place) named zero d = refl
      numbers_stay (q ∷ rest) (suc place) named (suc k) d = numbers_stay rest place named k d
