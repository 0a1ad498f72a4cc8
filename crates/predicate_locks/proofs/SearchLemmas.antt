-- Looking up searches by their number, in a list of rising numbers.
use Rattle.std.proofs.Common.{◌≡◌, ◌≢◌, ℕ, zero, suc, ◌+◌, ◌<◌, ◌≤◌, List, [], ◌∷◌, ◌++◌, length, get_or, Some, None, IsSome, refl, sym, ap, subst, ◌∙◌, inl, inr, arith}
use Rattle.std.proofs.lemmas.Bool.{cases_eq, cases_lt, eq-eqb, ne_eqb}
use Rattle.std.specs.List.{remove}
use Rattle.predicate_locks.specs.declared.running.RunningSearch.{RunningSearch}
use Rattle.predicate_locks.specs.Searches.{find_number}
use Rattle.predicate_locks.specs.Sound.{IsRising}

module _ {Q : Type 0} where
  find-here : (number : ℕ) (search : RunningSearch Q) (rest : List (RunningSearch Q)) → search.number ≡ number → find_number number (search ∷ rest) ≡ Some search
  find-here number search rest same = rw (eq-eqb search.number number same) refl

  find-later : (number : ℕ) (search : RunningSearch Q) (rest : List (RunningSearch Q)) → search.number ≢ number → find_number number (search ∷ rest) ≡ find_number number rest
  find-later number search rest other = rw (ne_eqb search.number number other) refl

  pub rising-bound : (low : ℕ) (searches : List (RunningSearch Q)) (next : ℕ) → IsRising low searches next → low ≤ next
  rising-bound low [] next rising = rising
  rising-bound low (search ∷ rest) next rising =
      let later = rising-bound (search.number + 1) rest next rising.1 in
      omega (arith, rising.0, later)

  -- a number below `low`, or from `next` on, is not found
  find-below : (number low : ℕ) (searches : List (RunningSearch Q)) (next : ℕ) → IsRising low searches next → number < low → find_number number searches ≡ None
  find-below number low [] next rising below = refl
  find-below number low (search ∷ rest) next rising below =
      find-later number search rest (λ e. omega (arith, rising.0)) ∙ find-below number (search.number + 1) rest next rising.1 (omega (arith, rising.0))

  pub find-from_next : (number low : ℕ) (searches : List (RunningSearch Q)) (next : ℕ) → IsRising low searches next → next ≤ number → find_number number searches ≡ None
  find-from_next number low [] next rising from = refl
  find-from_next number low (search ∷ rest) next rising from =
      let bound = rising-bound (search.number + 1) rest next rising.1 in
      find-later number search rest (λ e. omega (arith, bound)) ∙ find-from_next number (search.number + 1) rest next rising.1 from

  pub below_next : (low : ℕ) (searches : List (RunningSearch Q)) (next : ℕ) → IsRising low searches next → (number : ℕ) → IsSome (find_number number searches) → number < next
  below_next low searches next rising number some = elim (cases_lt number next) [
    | inl below ↦ below
    | inr from ↦
        let none = find-from_next number low searches next rising from in
        let found : IsSome {T = RunningSearch Q} None = subst IsSome none some in
        absurd (cc (found))
  ]

  -- a search added at the end
  pub find-pushed : (searches : List (RunningSearch Q)) (new : RunningSearch Q) → find_number new.number searches ≡ None → find_number new.number (searches ++ new ∷ []) ≡ Some new
  find-pushed [] new none = find-here new.number new [] refl
  find-pushed (search ∷ rest) new none = elim (cases_eq search.number new.number) [
    | inl same ↦ let found = find-here new.number search rest same in absurd (cc (found, none))
    | inr other ↦ find-later new.number search (rest ++ new ∷ []) other ∙ find-pushed rest new (sym (find-later new.number search rest other) ∙ none)
  ]

  pub find-pushed_other : (number : ℕ) (searches : List (RunningSearch Q)) (new : RunningSearch Q) → new.number ≢ number → find_number number (searches ++ new ∷ []) ≡ find_number number searches
  find-pushed_other number [] new other = find-later number new [] other
  find-pushed_other number (search ∷ rest) new other = elim (cases_eq search.number number) [
    | inl same ↦ find-here number search (rest ++ new ∷ []) same ∙ sym (find-here number search rest same)
    | inr apart ↦ find-later number search (rest ++ new ∷ []) apart ∙ (find-pushed_other number rest new other ∙ sym (find-later number search rest apart))
  ]

  pub rising-pushed : (low : ℕ) (searches : List (RunningSearch Q)) (new : RunningSearch Q) → IsRising low searches new.number → IsRising low (searches ++ new ∷ []) (new.number + 1)
  rising-pushed low [] new rising = (rising, omega arith)
  rising-pushed low (search ∷ rest) new rising = (rising.0, rising-pushed (search.number + 1) rest new rising.1)

  -- by index
  rising-get : (low : ℕ) (searches : List (RunningSearch Q)) (next : ℕ) → IsRising low searches next → (k : ℕ) (d : RunningSearch Q) → k < length searches → low ≤ (get_or searches k d).number
  rising-get low [] next rising k d within = absurd (omega arith)
  rising-get low (search ∷ rest) next rising zero d within = rising.0
  rising-get low (search ∷ rest) next rising (suc k) d within =
      let later = rising-get (search.number + 1) rest next rising.1 k d (omega arith) in
      omega (arith, rising.0, later)

  pub find-at : (low : ℕ) (searches : List (RunningSearch Q)) (next : ℕ) → IsRising low searches next → (k : ℕ) (d : RunningSearch Q) → k < length searches → find_number (get_or searches k d).number searches ≡ Some (get_or searches k d)
  find-at low [] next rising k d within = absurd (omega arith)
  find-at low (search ∷ rest) next rising zero d within = find-here search.number search rest refl
  find-at low (search ∷ rest) next rising (suc k) d within =
      let later = rising-get (search.number + 1) rest next rising.1 k d (omega arith) in
      find-later (get_or rest k d).number search rest (λ e. omega (arith, later)) ∙ find-at (search.number + 1) rest next rising.1 k d (omega arith)

  pub found_at : (low : ℕ) (searches : List (RunningSearch Q)) (next : ℕ) → IsRising low searches next → (k number : ℕ) (search : RunningSearch Q) → k < length searches → ((d : RunningSearch Q) → (get_or searches k d).number ≡ number) → search ≡ get_or searches k search → find_number number searches ≡ Some search
  found_at low searches next rising k number search within same read =
      subst (λ (n : ℕ). find_number n searches ≡ Some (get_or searches k search)) (same search) (find-at low searches next rising k search within) ∙ ap Some (sym read)

  -- a later search has the greater number
  pub rising-lt : (low : ℕ) (searches : List (RunningSearch Q)) (next : ℕ) → IsRising low searches next → (i k : ℕ) (d : RunningSearch Q) → i < k → k < length searches → (get_or searches i d).number < (get_or searches k d).number
  rising-lt low [] next rising i k d order within = absurd (omega arith)
  rising-lt low (search ∷ rest) next rising i zero d order within = absurd (omega arith)
  rising-lt low (search ∷ rest) next rising zero (suc k) d order within =
      let later = rising-get (search.number + 1) rest next rising.1 k d (omega arith) in
      omega (arith, later)
  rising-lt low (search ∷ rest) next rising (suc i) (suc k) d order within = rising-lt (search.number + 1) rest next rising.1 i k d (omega arith) (omega arith)

  pub rising-before : (low : ℕ) (searches : List (RunningSearch Q)) (next : ℕ) → IsRising low searches next → (k i : ℕ) (d : RunningSearch Q) → i < length searches → k < length searches → (get_or searches k d).number < (get_or searches i d).number → k < i
  rising-before low searches next rising k i d within also less = elim (cases_lt k i) [
    | inl before ↦ before
    | inr from ↦ elim (cases_eq i k) [
      | inl same ↦
          let e : (get_or searches i d).number ≡ (get_or searches k d).number = ap (λ (at : ℕ). (get_or searches at d).number) same in
          absurd (omega (arith, e))
      | inr other ↦ let lt = rising-lt low searches next rising i k d (omega arith) also in absurd (omega (arith, lt))
    ]
  ]

  -- a found search has an index
  pub record IsPlaced (number : ℕ) (searches : List (RunningSearch Q)) (search : RunningSearch Q) : Type 0 where
    pub place : ℕ
    pub within : place < length searches
    pub is : (d : RunningSearch Q) → get_or searches place d ≡ search
    pub same : search.number ≡ number

  pub placed : (number : ℕ) (searches : List (RunningSearch Q)) (search : RunningSearch Q) → find_number number searches ≡ Some search → IsPlaced number searches search
  placed number [] search found = absurd (cc (found))
  placed number (first ∷ rest) search found = elim (cases_eq first.number number) [
    | inl same ↦
        let here = find-here number first rest same in
        let e : first ≡ search = cc (here, found) in
        record { place = 0; within = omega arith; is = λ d. e; same = ap (λ (s : RunningSearch Q). s.number) (sym e) ∙ same }
    | inr other ↦
        let there = placed number rest search (sym (find-later number first rest other) ∙ found) in
        record { place = suc there.place; within = omega (arith, there.within); is = there.is; same = there.same }
  ]

  -- a number that no search has is not found
  pub none_placed : (number : ℕ) (searches : List (RunningSearch Q)) → ((k : ℕ) (d : RunningSearch Q) → k < length searches → (get_or searches k d).number ≢ number) → find_number number searches ≡ None
  none_placed number [] nowhere = refl
  none_placed number (search ∷ rest) nowhere =
      find-later number search rest (nowhere 0 search (omega arith)) ∙ none_placed number rest (λ k d within. nowhere (suc k) d (omega arith))

  -- one search removed
  rising-weaker : (low lower : ℕ) (searches : List (RunningSearch Q)) (next : ℕ) → lower ≤ low → IsRising low searches next → IsRising lower searches next
  rising-weaker low lower [] next below rising = omega (arith, rising)
  rising-weaker low lower (search ∷ rest) next below rising = (omega (arith, rising.0), rising.1)

  pub rising-removed : (low : ℕ) (searches : List (RunningSearch Q)) (next : ℕ) → IsRising low searches next → (k : ℕ) → k < length searches → IsRising low (remove searches k) next
  rising-removed low [] next rising k within = absurd (omega arith)
  rising-removed low (search ∷ rest) next rising zero within = rising-weaker (search.number + 1) low rest next (omega (arith, rising.0)) rising.1
  rising-removed low (search ∷ rest) next rising (suc k) within = (rising.0, rising-removed (search.number + 1) rest next rising.1 k (omega arith))

  pub find-removed : (low : ℕ) (searches : List (RunningSearch Q)) (next : ℕ) → IsRising low searches next → (k : ℕ) (d : RunningSearch Q) → k < length searches → find_number (get_or searches k d).number (remove searches k) ≡ None
  find-removed low [] next rising k d within = absurd (omega arith)
  find-removed low (search ∷ rest) next rising zero d within = find-below search.number (search.number + 1) rest next rising.1 (omega arith)
  find-removed low (search ∷ rest) next rising (suc k) d within =
      let later = rising-get (search.number + 1) rest next rising.1 k d (omega arith) in
      find-later (get_or rest k d).number search (remove rest k) (λ e. omega (arith, later)) ∙ find-removed (search.number + 1) rest next rising.1 k d (omega arith)

  pub find-removed_other : (number : ℕ) (searches : List (RunningSearch Q)) (k : ℕ) (d : RunningSearch Q) → k < length searches → (get_or searches k d).number ≢ number → find_number number (remove searches k) ≡ find_number number searches
  find-removed_other number [] k d within other = absurd (omega arith)
  find-removed_other number (search ∷ rest) zero d within other = sym (find-later number search rest other)
  find-removed_other number (search ∷ rest) (suc k) d within other = elim (cases_eq search.number number) [
    | inl same ↦ find-here number search (remove rest k) same ∙ sym (find-here number search rest same)
    | inr apart ↦ find-later number search (remove rest k) apart ∙ (find-removed_other number rest k d (omega arith) other ∙ sym (find-later number search rest apart))
  ]
